use Rattle.std.proofs.Common.{ap, sym, ◌∙◌}
use Rattle.push_model.specs.declared.reply.Reply.TheVariants.{Users}
use Rattle.push_model.specs.Worlds.{World}
use Rattle.push_model.specs.ShardSteps.{is_idle}
use Rattle.shard_core.proofs.Lists.{users_where-by}
use Rattle.shard_core.proofs.state.State.list_idle.Goals as goal

pub returns : goal.returns
returns c =
    let w = c.args.self.now in
    ap (λ us. (w, Users us)) (sym (users_where-by (is_idle w.clock) w c.self.inside.cells.entries (ap (λ (v : World). v.cells) c.self.view_is)) ∙ sym (rw (← c.self.view_is) c.in_ok-idle_users.ensures))
