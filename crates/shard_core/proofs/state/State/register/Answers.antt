use Rattle.std.proofs.Common.{sym, ◌∙◌}
use Rattle.push_model.specs.SessionSteps.{lacks}
use Rattle.push_model.specs.Worlds.{cell_at}
use Rattle.shard_core.proofs.TokenOwners.{brings_free}
use Rattle.shard_core.proofs.state.State.register.Goals as goal

pub on_cell-requires-clause-free : goal.on_cell-requires-clause-free
on_cell-requires-clause-free c =
    let w = c.args.self.now in
    let s = c.args.s.now in
    let free = brings_free (lacks s c.args.chid (cell_at w.cells s.uaid)) c.args.token.now w.cells (sym c.is_taken.ensures ∙ c.if-is_taken.false) in
    rw (← c.s.view_is) at free
