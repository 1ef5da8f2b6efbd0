-- What callers see of a head.
use Rattle.std.specs.Prelude.{ℕ, Bool, List}
use Rattle.http_wire.specs.Lines.{Line}

-- its method, its target, its lines in order, its minor version, and whether the body behind it is empty
pub record HeadValue : Type 0 where
  pub method : List ℕ
  pub target : List ℕ
  pub lines : List Line
  pub minor : ℕ
  pub body_empty : Bool
