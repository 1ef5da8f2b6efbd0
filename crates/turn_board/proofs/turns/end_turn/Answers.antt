use Rattle.std.proofs.Common.{ℕ, List, ◌∷◌, sym, ap, ◌∙◌, Option, Some, arith, length}
use Rattle.atomic_table.specs.Table.{rest}
use Rattle.push_model.specs.Histories.{world_after}
use Rattle.turn_board.specs.declared.view.Home.{Home}
use Rattle.turn_board.specs.Plays.{SeatState}
use Rattle.turn_board.proofs.Ending.{ends}
use Rattle.turn_board.proofs.turns.end_turn.Goals as goal

pub fetch_add-requires : goal.fetch_add-requires
fetch_add-requires g c =
    let q = c.requires in
    let hold = q.holding in
    let x = c.exchange-taken.ensures in
    let e = x.3 in
    let M : Type 0 = SeatState g.row.T.Denot g.row.T-Step.Denot g.row.T-Reply.Denot in (
      x.0 ∙ q.table.0,
      (let w = q.table.1 in omega arith),
      ends _ _ _ _ _ hold.ticket _ hold.origin c.args.home
          (ap (λ (m : M). m.0.place) e ∙ hold.serves)
          (ap (λ (m : M). m.1) e ∙ ap (λ (cs : List (ℕ × Option (Home g.row.T.Denot))). (0, Some c.args.home) ∷ rest cs) hold.out)
          (ap (λ (m : M). m.0.first) e ∙ hold.first)
          (hold.there ∙ ap (λ (m : M). world_after g.T.Object.run hold.origin m.0.known) (sym e))
          (hold.entries ∙ ap (λ (m : M). length m.0.known) (sym e)),
    )
