-- Where the message of a request is taken.
use Rattle.std.specs.Prelude.{◌≡◌, ℕ, ◌<◌, ◌^◌, List, ◌++◌, Some, find, length}
use Rattle.push_model.specs.declared.ids.Token.{Token}
use Rattle.push_model.specs.Cells.{Cell, rows_of}
use Rattle.push_model.specs.Worlds.{World, has_token_in}
use Rattle.push_model.specs.DeskViews.{DeskView, Made, entries_at, own_entries}
use Rattle.http_wire.specs.declared.request.Request.{Request}
use Rattle.push_paths.specs.Paths.{token_of}
use Rattle.endpoint_token.specs.TokenTexts.{IsToken, spelled}

-- its path is that of the token
pub record IsTo (r : Request) (t : Token) : Type 0 where
  pub token : IsToken t
  pub path : token_of r.head.target ≡ Some (spelled t)

-- In that world a user has a channel of the token, and fewer than 1,000 rows; and a message number is left to give.
pub record Admits (t : Token) (w : World) : Type 0 where
  pub owner : ℕ × Cell
  pub found : find (has_token_in t) w.cells ≡ Some owner
  pub few : length (rows_of owner.1.user) < 1000
  pub numbers : w.next < 2 ^ 63

-- what was seen of the shard k grew by these entries, and nobody else made any
abbrev pub GrewAlone : DeskView → DeskView → ℕ → List Made → Type 0
GrewAlone a b k ms = b.seen k ≡ a.seen k ++ entries_at a.number k ms

-- each entry that was seen of the shard k is an own one
abbrev pub IsAlone : DeskView → ℕ → Type 0
IsAlone v k = own_entries v k ≡ v.seen k
