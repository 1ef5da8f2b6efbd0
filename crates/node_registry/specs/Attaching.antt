-- How a session joins, and why it doesn't.
use Rattle.std.specs.Prelude.{◌≡◌, ℕ, Bool, true, false, List, [], ◌∷◌, ◌++◌, Option, Some, None, find, nat_lt}
use Rattle.push_model.specs.SessionKey.{SessionKey}
use Rattle.push_model.specs.Keyed.{with_first}
use Rattle.push_model.specs.Sessions.{Session, displaced, is_attached_at, new_session}
use Rattle.node_registry.specs.declared.attach.AttachFault.{AttachFault}
use Rattle.node_registry.specs.declared.attach.AttachFault.TheVariants.{Outrun, NoMemory}

-- none is attached at its node; or one of that moment is, which isn't greater and is displaced
abbrev pub IsJoined : Option ℕ → SessionKey → List Session → List Session → Type 0
IsJoined None s old new = (find (is_attached_at s.node) old ≡ None) × (new ≡ old ++ new_session s ∷ [])
IsJoined (Some at) s old new =
    (other : Session)
    × (find (is_attached_at s.node) old ≡ Some other)
    × (other.at ≡ at)
    × (nat_lt s.at other.at ≡ false)
    × (new ≡ with_first (is_attached_at s.node) displaced old ++ new_session s ∷ [])

-- the session that is attached at its node, if one is, is of a greater moment
abbrev pub is_outrun : SessionKey → Option Session → Bool
is_outrun s None = false
is_outrun s (Some other) = nat_lt s.at other.at

-- one of that greater moment is attached at its node; or there was no memory, and none is
abbrev pub IsRefused : AttachFault → SessionKey → List Session → List Session → Type 0
IsRefused (Outrun at) s old new =
    (other : Session) × (find (is_attached_at s.node) old ≡ Some other) × (other.at ≡ at) × (nat_lt s.at other.at ≡ true) × (new ≡ old)
IsRefused NoMemory s old new = (is_outrun s (find (is_attached_at s.node) old) ≡ false) × (new ≡ old)
