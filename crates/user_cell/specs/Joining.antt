-- How a session is kept from being attached.
use Rattle.std.specs.Prelude.{◌≡◌, ℕ, true, List, Some, find, nat_lt}
use Rattle.push_model.specs.SessionKey.{SessionKey}
use Rattle.push_model.specs.Sessions.{Session, is_attached_at}

-- a session of that greater moment is attached at its node
abbrev pub IsOutrunBy : ℕ → SessionKey → List Session → Type 0
IsOutrunBy at s xs = (other : Session) × (find (is_attached_at s.node) xs ≡ Some other) × (other.at ≡ at) × (nat_lt s.at other.at ≡ true)
