use Rattle.std.proofs.Common.{arith}
use Rattle.session_drive.proofs.HelloLemmas.{taken_none, taken_on, created_some, created_err, all_taken}
use Rattle.session_drive.proofs.hellos.create_drawn.Goals as goal

pub loop-tries-init : goal.loop-tries-init
loop-tries-init g c = taken_none _ _ _ _

pub returns-in-Ok-Some : goal.returns-in-Ok-Some
returns-in-Ok-Some g c = created_some _ _ c.loop-tries.tries _ _ _ _ _ _ c.in-Ok-Some.s (omega arith) c.loop-tries.invariant (rw c.in-Ok-Some.field-0-is at c.in-Ok-Some.ensures)

pub returns-in-Err : goal.returns-in-Err
returns-in-Err g c = created_err _ _ c.loop-tries.tries _ _ _ _ _ _ c.in-Err.end (omega arith) c.loop-tries.invariant c.in-Err.ensures

pub loop-tries-preserved : goal.loop-tries-preserved
loop-tries-preserved g c = taken_on _ _ c.loop-tries.tries _ _ _ _ _ _ c.loop-tries.invariant (rw c.in-Ok-None.field-0-is at c.in-Ok-None.ensures)

pub returns : goal.returns
returns g c = all_taken _ _ c.loop-tries.tries _ _ _ _ (omega arith) c.loop-tries.invariant
