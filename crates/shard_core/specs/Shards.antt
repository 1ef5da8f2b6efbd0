-- Steps of a shard but Begin, which alone takes what it is given, and cells with their users.
use Rattle.std.specs.Prelude.{◌≡◌, true, Option, Some, None, is_some}
use Rattle.push_model.specs.declared.step.Step.{Step}
use Rattle.push_model.specs.declared.step.Step.TheVariants.{Begin}
use Rattle.push_model.specs.Cells.{Cell}

abbrev pub IsNoBegin : Step → Type 0
IsNoBegin (Begin o t a) = ⊥
IsNoBegin _ = Unit {0}

-- the cell is there, with its user
abbrev pub HasUser : Option Cell → Type 0
HasUser (Some c) = is_some c.user ≡ true
HasUser None = ⊥
