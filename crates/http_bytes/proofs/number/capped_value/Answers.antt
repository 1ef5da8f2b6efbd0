use Rattle.http_bytes.proofs.NumberLemmas.{capped_value_more}
use Rattle.http_bytes.proofs.number.capped_value.Goals as goal

pub loop-b-preserved : goal.loop-b-preserved
loop-b-preserved c =
    let step = capped_value_more c.args.digits.now c.loop-b.b-index c.loop-b.n c.args.cap c.loop-b-test.true c.requires.cap c.requires.digits c.loop-b.invariant in
    rw (c.min-n.ensures, c.saturating_add.ensures, c.saturating_mul.ensures, c.from-digit.ensures, c.saturating_sub.ensures) step
