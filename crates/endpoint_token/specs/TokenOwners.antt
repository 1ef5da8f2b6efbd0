-- Whose channel each token is.
use Rattle.std.specs.Prelude.{◌≡◌, ℕ, true, ◌==◌, List, Option, Some, None, is_some, if◌then◌else◌}
use Rattle.std.specs.Map.{lookup}
use Rattle.std.specs.Str.{bytes_eq}
use Rattle.push_model.specs.declared.ids.ChannelId.{ChannelId}
use Rattle.push_model.specs.declared.ids.Token.{Token}
use Rattle.push_model.specs.declared.ids.Uaid.{Uaid}
use Rattle.push_model.specs.Names.{is_same_token}
use Rattle.endpoint_token.specs.declared.rows.InsertFault.{InsertFault}
use Rattle.endpoint_token.specs.declared.rows.InsertFault.TheVariants.{Taken, NoMemory}

-- the bytes of a token, and the user and the channel that have it
abbrev pub TokenRow : Type 0
TokenRow = List ℕ × (Uaid × ChannelId)

-- the user and the channel that have the token
abbrev pub owner_of : List TokenRow → Token → Option (Uaid × ChannelId)
owner_of rows t = lookup (bytes_eq t.0) rows

-- without those of the user
abbrev pub unless_user : Uaid → Option (Uaid × ChannelId) → Option (Uaid × ChannelId)
unless_user u None = None
unless_user u (Some x) = if x.0.0 == u.0 then None else Some x

-- the token has that owner afterwards, and each other token has the owner that it had
abbrev pub ChangesOwner : List TokenRow → List TokenRow → Token → Option (Uaid × ChannelId) → Type 0
ChangesOwner old new t x = (s : Token) → owner_of new s ≡ (if is_same_token t s then x else owner_of old s)

-- the user has no token afterwards, and each token of another user has the owner that it had
abbrev pub LosesUser : List TokenRow → List TokenRow → Uaid → Type 0
LosesUser old new u = (s : Token) → owner_of new s ≡ unless_user u (owner_of old s)

-- the token has an owner, or there was no memory for one more
abbrev pub IsFault : List TokenRow → Token → InsertFault → Type 0
IsFault rows t Taken = is_some (owner_of rows t) ≡ true
IsFault rows t NoMemory = owner_of rows t ≡ None
