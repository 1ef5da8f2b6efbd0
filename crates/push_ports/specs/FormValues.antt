-- What callers see of the forms in memory.
use Rattle.std.specs.Prelude.{ℕ, List}

-- a `ListListener`: the wires not yet given, how many it gave, and the lulls in a row
pub record ListListenerValue (W : Type 0) : Type 0 where
  pub left : List W
  pub given : ℕ
  pub lulls : ℕ

-- a `ListPorts`: the wires of each listener not yet given, the number of calls so far, the numbers of the calls that fail, the
-- number of faults so far, and how many listeners it gave
pub record ListPortsValue (W : Type 0) : Type 0 where
  pub left : List (List W)
  pub calls : ℕ
  pub failing : List ℕ
  pub faults : ℕ
  pub given : ℕ

-- a `FailSpawner`: the number of calls so far, the numbers of the calls at which a start fails, the number of faults so far, and
-- how many jobs were started and joined
pub record FailSpawnerValue : Type 0 where
  pub calls : ℕ
  pub failing : List ℕ
  pub faults : ℕ
  pub started : ℕ
  pub joined : ℕ
