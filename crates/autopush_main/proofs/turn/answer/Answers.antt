use Rattle.std.proofs.Common.{refl, inl, inr}
use Rattle.push_model.specs.Steps.{step}
use Rattle.schedule_text.specs.Replies.{reply_line}
use Rattle.autopush_main.proofs.turn.answer.Goals as goal

-- the step was made, and there was no memory for its reply's text
pub returns-in-Err : goal.returns-in-Err
returns-in-Err c =
    let made = c.in_ok-step.step in
    let line = c.in_ok-step.ensures.found in
    elim c.in-Err.ensures.err [
      | inl same ↦ inl same
      | inr moved ↦ inr (
        reply_line (step c.args.shard.now made).1,
        record {
          made = made;
          is_line = record { spelled = line.0; range = line.1; short = c.requires };
          moved = moved;
          replied = refl;
        },
      )
    ]
