use Rattle.std.proofs.Common.{refl}
use Rattle.serde_json.proofs.OnLiterals.{serde_json_on_literals}
use Rattle.client_messages.proofs.pins.clients_are_understood_so.Goals as goal

pub returns : goal.returns
unfolding serde_json_on_literals
returns c = record { bare = refl; list = refl; untyped = refl; cut = refl }
