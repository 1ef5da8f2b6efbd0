use Rattle.std.proofs.Common.{arith}
use Rattle.http_front.proofs.ClosingLemmas.{cut_at, uncut}
use Rattle.http_front.proofs.closing.cut.Goals as goal

pub returns-then-b-eq44-clause-parts : goal.returns-then-b-eq44-clause-parts
returns-then-b-eq44-clause-parts c = cut_at c.args.list.now c.loop-end.end c.loop-end-test.true c.loop-end.invariant c.if-b-eq44.true

pub returns-clause-parts : goal.returns-clause-parts
returns-clause-parts c = uncut c.args.list.now (λ k h. c.loop-end.invariant k (omega (arith, h, c.loop-end-test.false)))
