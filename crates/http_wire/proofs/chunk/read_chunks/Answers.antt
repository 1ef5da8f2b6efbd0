use Rattle.std.proofs.Common.{arith}
use Rattle.http_bytes.proofs.Flow.{Keeps-then}
use Rattle.http_wire.proofs.Chunking.{some_more, ends_last, ends_over, chunks_break}
use Rattle.http_wire.proofs.chunk.read_chunks.Goals as goal

pub loop-step-preserved : goal.loop-step-preserved
loop-step-preserved g c =
    let i = c.loop-step.invariant in
    let e = c.in-Ok.ensures in
    let taken = rw c.in-Data.is at e.ok in
    record {
      takes = some_more _ _ _ _ _ _ _ _ i.takes taken;
      kept = Keeps-then _ _ _ i.kept e.kept;
      faults = omega (arith, i.faults, e.cause);
    }

pub returns-in-Last-clause-ok : goal.returns-in-Last-clause-ok
returns-in-Last-clause-ok g c =
    let taken = rw c.in-Last.is at c.in-Ok.ensures.ok in
    ends_last _ _ _ _ _ _ _ _ c.loop-step.invariant.takes taken.0 taken.1

pub returns-in-Over-clause-ok : goal.returns-in-Over-clause-ok
returns-in-Over-clause-ok g c =
    let taken = rw c.in-Over.is at c.in-Ok.ensures.ok in
    ends_over _ _ _ _ _ _ _ c.loop-step.invariant.takes taken

pub returns-in-Err-clause-err : goal.returns-in-Err-clause-err
returns-in-Err-clause-err g c = chunks_break c.in-Err.fault _ _ _ _ _ _ c.loop-step.invariant.takes c.in-Err.ensures.err
