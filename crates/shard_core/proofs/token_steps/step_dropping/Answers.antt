use Rattle.shard_core.specs.Owners.{token_owner}
use Rattle.shard_core.proofs.TokenOwners.{dropped_or_not}
use Rattle.shard_core.proofs.token_steps.step_dropping.Goals as goal

pub returns-clause-complete : goal.returns-clause-complete
returns-clause-complete c =
    let before = token_owner c.args.owners.now.entries in
    let after = token_owner c.forget_user.new.owners.entries in
    dropped_or_not c.step_at.result before after c.args.moment c.args.asked.now c.args.uaid c.args.cells.now.entries c.step_at.new.cells.entries _ c.step_at.ensures.ok c.step_at.ensures.err
    c.requires.drops c.forget_user.ensures c.requires.complete
