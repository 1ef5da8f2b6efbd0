-- The front of a line that is kept.
use Rattle.std.specs.Prelude.{ℕ, List, take}

-- one byte more than the longest line that asks for something
abbrev pub front_of : List ℕ → List ℕ
front_of line = take 7 line
