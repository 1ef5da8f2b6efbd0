use Rattle.std.proofs.Common.{arith}
use Rattle.push_paths.proofs.Prefixes.{marked, unmarked}
use Rattle.push_paths.proofs.paths.path_of.Goals as goal

pub returns-then-b-eq63 : goal.returns-then-b-eq63
returns-then-b-eq63 c = marked c.args.target.now c.loop-end.end c.loop-end-test.true c.loop-end.invariant c.if-b-eq63.true

pub returns : goal.returns
returns c = unmarked c.args.target.now (λ k h. c.loop-end.invariant k (omega (arith, h, c.loop-end-test.false)))
