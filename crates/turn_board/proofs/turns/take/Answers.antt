use Rattle.std.proofs.Common.{◌≡◌, ℕ, List, ◌∷◌, refl, sym, subst, Option, Some}
use Rattle.atomic_table.specs.Table.{rest}
use Rattle.turn_board.specs.declared.view.Home.{Home}
use Rattle.turn_board.proofs.turns.take.Goals as goal

pub exchange-requires : goal.exchange-requires
exchange-requires g c =
    let x : Option (Home g.row.T.Denot) = Some c.requires.turn.0 in
    (c.requires.table.0, (x, subst (λ (cs : List (ℕ × Option (Home g.row.T.Denot))). cs ≡ (0, x) ∷ rest cs) (sym c.requires.turn.1) refl))
