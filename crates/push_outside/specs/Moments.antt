-- What a clock tells.
use Rattle.std.specs.Prelude.{◌≡◌, ℕ, Option, Some, None, ⊤}

-- a number is the moment that is told, where one is
abbrev pub IsMomentOf : Option ℕ → ℕ → Type 0
IsMomentOf None millis = ⊤
IsMomentOf (Some moment) millis = millis ≡ moment
