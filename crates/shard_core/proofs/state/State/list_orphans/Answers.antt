use Rattle.std.proofs.Common.{ap, sym, ◌∙◌}
use Rattle.push_model.specs.declared.reply.Reply.TheVariants.{Users}
use Rattle.push_model.specs.Worlds.{World}
use Rattle.push_model.specs.ShardSteps.{is_orphaned}
use Rattle.shard_core.proofs.Lists.{users_where-by}
use Rattle.shard_core.proofs.state.State.list_orphans.Goals as goal

pub returns : goal.returns
returns c =
    let w = c.args.self.now in
    ap (λ us. (w, Users us)) (sym (users_where-by is_orphaned w c.self.inside.cells.entries (ap (λ (v : World). v.cells) c.self.view_is)) ∙ sym c.in_ok-orphaned_users.ensures)
