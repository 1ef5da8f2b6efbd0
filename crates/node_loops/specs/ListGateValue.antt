-- What callers see of a `ListGate`.
use Rattle.std.specs.Prelude.{ℕ, Bool, List}
use Rattle.node_loops.specs.declared.list_gate.GateNote.{GateNote}

-- how many stops there were, the number of the first that answers true, whether one did, the calls that were noted, and how many
-- more there is room for
pub record ListGateValue : Type 0 where
  pub stops : ℕ
  pub last : ℕ
  pub stopped : Bool
  pub notes : List GateNote
  pub room : ℕ
