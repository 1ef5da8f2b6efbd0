use Rattle.std.proofs.Common.{arith, length, ◌∙◌}
use Rattle.http_bytes.proofs.Waiting.{gathered, gathers_on, blames_on, unblamed, settled}
use Rattle.http_bytes.proofs.Flow.{Keeps-then}
use Rattle.http_bytes.proofs.wait.wait_for.Goals as goal

pub returns-in-Some-clause-bytes : goal.returns-in-Some-clause-bytes
returns-in-Some-clause-bytes g c =
    settled c.in-Some.end c.waiting.filled c.waiting.lulls (length c.waiting.rest) _ _ _ _ _ _ _ c.waiting.invariant.read c.in-Some.ensures.settles

pub waiting-preserved-in-NotYet : goal.waiting-preserved-in-NotYet
waiting-preserved-in-NotYet g c =
    let i = c.waiting.invariant in
    let s = c.in_default.ensures.settles in
    let e = c.fill-filled.ensures in
    record {
      read = gathers_on _ _ _ _ _ _ _ (gathered _ _ _ _ _ s.0 i.read) e.bytes;
      kept = Keeps-then _ _ _ i.kept e.kept;
      faults = blames_on _ _ _ _ (unblamed _ _ _ s.0 i.faults) e.cause;
      idle = omega (arith, i.idle, s.1, c.in-NotYet.ensures.lulls);
      few = omega (arith, s.1);
      same = c.in_default.ensures.same ∙ i.same;
    }

pub waiting-preserved : goal.waiting-preserved
waiting-preserved g c =
    let i = c.waiting.invariant in
    let s = c.in_default.ensures.settles in
    let e = c.fill-filled.ensures in
    record {
      read = gathers_on _ _ _ _ _ _ _ (gathered _ _ _ _ _ s.0 i.read) e.bytes;
      kept = Keeps-then _ _ _ i.kept e.kept;
      faults = blames_on _ _ _ _ (unblamed _ _ _ s.0 i.faults) e.cause;
      idle = omega arith;
      few = omega arith;
      same = c.in_default.ensures.same ∙ i.same;
    }
