use Rattle.std.proofs.Common.{sym, ◌∙◌}
use Rattle.std.specs.Prelude.{find}
use Rattle.push_model.specs.Worlds.{has_token_in}
use Rattle.shard_core.proofs.Values.{any_found, copied_some}
use Rattle.shard_core.proofs.state.State.knows_token.Goals as goal

pub returns : goal.returns
returns c =
    let test = has_token_in c.args.token.now in
    let es = c.args.self.now.cells in
    c.is_some.ensures ∙ copied_some c.token_cell.result (find test es) c.token_cell.ensures ∙ sym (any_found test es)
