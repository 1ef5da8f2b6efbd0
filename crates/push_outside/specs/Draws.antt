-- The bytes that a draw gave.
use Rattle.std.specs.Prelude.{◌≡◌, ℕ, zero, suc, ◌+◌, ◌%◌, ◌-◌, ◌^◌, List, [], ◌∷◌, ◌++◌, Option, Some, None, nat_lt, if◌then◌else◌}

-- these bytes are behind what was given before, where it is told after
abbrev pub GivesMore : Option (List ℕ) → Option (List ℕ) → List ℕ → Type 0
GivesMore before None bytes = Unit {0}
GivesMore before (Some after) bytes = (given : List ℕ) × (before ≡ Some given) × (after ≡ given ++ bytes)

-- a `ListDraw`: its first byte, and how many it gave, up to the last value
pub record ListDrawValue : Type 0 where
  pub first : ℕ
  pub count : ℕ

-- so many bytes, each one more than the one before, and 0 after 255
abbrev pub counted : ℕ → ℕ → List ℕ
counted first zero = []
counted first (suc n) = counted first n ++ ((first + n) % 256) ∷ []

-- what it gave, as long as its count goes on
abbrev pub list_given : ListDrawValue → Option (List ℕ)
list_given d = if nat_lt d.count (2 ^ 64 - 1) then Some (counted d.first d.count) else None
