use Rattle.session_drive.proofs.HelloLemmas.{claim_done, claim_ended, created_behind}
use Rattle.session_drive.proofs.hellos.claim_or_create.Goals as goal

pub returns-in-Ok-true : goal.returns-in-Ok-true
returns-in-Ok-true g c = claim_done _ _ c.args.uaid _ _ _ c.shard_on-shard.ensures.value _ (rw c.in-Ok-true.field-0-test at c.in-Ok-true.ensures)

pub returns-in-Ok-false : goal.returns-in-Ok-false
returns-in-Ok-false g c = created_behind _ _ c.args.uaid _ _ _ c.shard_on-shard.ensures.value _ _ _ _ (rw c.in-Ok-false.field-0-test at c.in-Ok-false.ensures) c.create_drawn.ensures

pub returns-in-Err : goal.returns-in-Err
returns-in-Err g c = claim_ended _ _ c.args.uaid _ _ _ c.shard_on-shard.ensures.value _ c.in-Err.end c.in-Err.ensures
