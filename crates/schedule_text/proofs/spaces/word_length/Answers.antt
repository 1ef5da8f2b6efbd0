use Rattle.std.proofs.Common.{arith, sym}
use Rattle.std.proofs.lemmas.Bool.{eq-eqb}
use Rattle.schedule_text.proofs.SpaceLaws.{first_is_at}
use Rattle.schedule_text.proofs.spaces.word_length.Goals as goal

pub returns-else-bytes-at-ne32-clause-value : goal.returns-else-bytes-at-ne32-clause-value
returns-else-bytes-at-ne32-clause-value c =
    sym (first_is_at c.args.bytes.now c.loop-at.at c.loop-at.invariant.within c.loop-at.invariant.none (λ lt. eq-eqb _ _ c.if-bytes-at-ne32.false))

pub returns-after-loop-at-clause-value : goal.returns-after-loop-at-clause-value
returns-after-loop-at-clause-value c =
    sym (first_is_at c.args.bytes.now c.loop-at.at c.loop-at.invariant.within c.loop-at.invariant.none (λ lt. absurd (omega arith)))
