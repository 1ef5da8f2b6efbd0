use Rattle.std.proofs.Common.{◌≡◌, not, None, ap, sym, ◌∙◌}
use Rattle.shard_core.specs.Owners.{holds, token_owner, owned}
use Rattle.shard_core.proofs.Owners.{none_owned}
use Rattle.shard_core.proofs.TokenOwners.{token_changes}
use Rattle.shard_core.proofs.Values.{copied_none}
use Rattle.shard_core.proofs.token_owners.forget_token.Goals as goal

pub returns-then-is_none-clause-complete : goal.returns-then-is_none-clause-complete
returns-then-is_none-clause-complete c =
    let es = c.args.cells.now.entries in
    let rows = c.args.owners.now.entries in
    let t = c.args.token.now in
    let none : owned (holds t) (token_owner rows t) es ≡ None =
    sym c.token_cell.ensures ∙ copied_none c.token_cell.result (c.is_none.ensures ∙ ap not c.if-is_none.true) in
    token_changes rows _ t None es c.remove.ensures.updates.0 (none_owned holds (token_owner rows) t es c.requires none) c.requires
