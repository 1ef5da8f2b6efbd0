-- The lines of heads.
use Rattle.std.specs.Prelude.{ℕ, List}

-- a name in lower case, and a value with no space or tab at either end
pub record Line : Type 0 where
  pub name : List ℕ
  pub value : List ℕ
