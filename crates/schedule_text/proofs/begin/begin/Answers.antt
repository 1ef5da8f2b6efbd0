use Rattle.std.proofs.Common.{rules}
use Rattle.push_model.specs.declared.step.Step.TheVariants.{Begin}
use Rattle.schedule_text.specs.Reading.{ask_at, ask_of, begin_at, decoded}
use Rattle.schedule_text.proofs.begin.begin.Goals as goal

-- the step that is read, and whose payload finds no memory
pub returns-in-Err-clause-memory : goal.returns-in-Err-clause-memory
unfolding begin_at ask_at
returns-in-Err-clause-memory c =
    let terms = c.in_ok-ttl in (
      Begin c.in_ok-op.op c.in_ok-op.token (ask_of (terms.ttl, (terms.topic, (terms.urgency, decoded c.in_ok-digits.digits.now)))),
      (search rules, c.in-Err.ensures.wanted),
    )
