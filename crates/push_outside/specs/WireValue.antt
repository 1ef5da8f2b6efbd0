-- What callers see of a wire in memory.
use Rattle.std.specs.Prelude.{ℕ, List}

-- a `ListWire`: the bytes not yet given, those taken so far, the number of calls so far, the numbers of the calls that fail
-- and that have nothing to do, the number of faults so far, and of the lulls in a row
pub record ListWireValue : Type 0 where
  pub left : List ℕ
  pub written : List ℕ
  pub calls : ℕ
  pub failing : List ℕ
  pub not_yet : List ℕ
  pub faults : ℕ
  pub lulls : ℕ
