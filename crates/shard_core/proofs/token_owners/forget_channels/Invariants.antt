use Rattle.std.proofs.Common.{◌≡◌, cond, take, None}
use Rattle.std.specs.List.{list_any}
use Rattle.push_model.specs.declared.ids.Token.{Token}
use Rattle.push_model.specs.Cells.{is_token}
use Rattle.shard_core.specs.Owners.{token_owner}
use Rattle.shard_core.proofs.token_owners.forget_channels.Given as goal

abbrev pub invariant-loop-channel : goal.invariant-loop-channel
invariant-loop-channel l = (t : Token) → token_owner l.owners.entries t ≡ cond (list_any (is_token t) (take l.channel-index l.channels)) None (token_owner l.fn.owners.entries t)
