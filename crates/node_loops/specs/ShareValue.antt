-- What callers see of a `Share`.
use Rattle.std.specs.Prelude.{ℕ}

-- how many of its accepts failed, how many wires it gave, and how many of its accepts in a row answered `NotYet`
pub record ShareValue : Type 0 where
  pub faults : ℕ
  pub given : ℕ
  pub lulls : ℕ
