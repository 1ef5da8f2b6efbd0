use Rattle.std.proofs.Common.{refl, sym, subst, ◌∙◌}
use Rattle.push_model.specs.Reached.{IsReached}
use Rattle.shard_core.specs.Owners.{holds, token_owner}
use Rattle.shard_core.proofs.Owners.{owned_first}
use Rattle.shard_core.proofs.state.State.token_cell.Goals as goal

pub returns : goal.returns
returns c =
    let s = c.self.inside in
    rw (← c.self.view_is)
    (c.token_cell.ensures ∙ owned_first holds (token_owner s.tokens.entries) c.args.token.now _ s.cells.entries refl (subst IsReached (sym c.self.view_is) c.requires) c.self.invariant.3)
