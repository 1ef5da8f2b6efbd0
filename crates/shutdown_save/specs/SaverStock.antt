-- A user's savers, and for how many more there is room.
use Rattle.std.specs.Prelude.{ℕ, List, []}
use Rattle.push_model.specs.Cells.{Saver}

pub record SaverStock : Type 0 where
  pub savers : List Saver
  pub spare : ℕ

abbrev pub no_savers : SaverStock
no_savers = record { savers = []; spare = 0 }
