use Rattle.std.proofs.Common.{arith}
use Rattle.session_drive.proofs.RegisterLemmas.{still_within, tokens_none, token_taken, token_given, token_failed, tokens_spent}
use Rattle.session_drive.proofs.registers.register.Goals as goal

pub loop-tries-init : goal.loop-tries-init
loop-tries-init g c = tokens_none _ _ _ _ _ _

pub loop-tries-preserved : goal.loop-tries-preserved
loop-tries-preserved g c = token_taken _ _ _ _ c.loop-tries.tries _ _ _ _ _ _ _ c.loop-tries.invariant c.draw_for-token.ensures.token c.draw_for-token.ensures.drawn (rw c.in-Ok-false.field-0-test at c.in-Ok-false.ensures)

pub returns-in-Ok-true : goal.returns-in-Ok-true
returns-in-Ok-true g c = token_given _ _ _ _ c.loop-tries.tries _ _ _ _ _ _ _ c.loop-tries.invariant c.draw_for-token.ensures.token c.draw_for-token.ensures.drawn (omega arith) (rw c.in-Ok-true.field-0-test at c.in-Ok-true.ensures)

pub returns-in-Err : goal.returns-in-Err
returns-in-Err g c = token_failed _ _ _ _ c.loop-tries.tries _ _ _ _ _ _ _ c.loop-tries.invariant c.draw_for-token.ensures.token c.draw_for-token.ensures.drawn c.in-Err.end (omega arith) c.in-Err.ensures

pub returns : goal.returns
returns g c = tokens_spent _ _ _ _ c.loop-tries.tries _ _ _ _ (omega arith) c.loop-tries.invariant

pub try_register-requires : goal.try_register-requires
try_register-requires g c = still_within _ _ _ _ c.loop-tries.tries _ _ _ _ c.requires c.loop-tries.invariant
