use Rattle.std.proofs.Common.{arith, ap, subst, ◌∙◌}
use Rattle.turn_board.specs.Views.{AllParts}
use Rattle.turn_board.specs.Plays.{SeatState}
use Rattle.turn_board.proofs.Joins.{joins}
use Rattle.turn_board.proofs.Numbering.{compares}
use Rattle.turn_board.proofs.seats.join.Goals as goal

pub join_seat-requires : goal.join_seat-requires
join_seat-requires g c = let q = c.requires in (q.table.0.0, q.table.1, q.other.2, (let w = q.table.0.1 in omega arith), joins _ _ _ _ _ _ _ q.free.0 q.other.0 q.free.1 q.other.1)

pub load-requires : goal.load-requires
load-requires g c =
    let q = c.requires in
    let j = c.join_seat.ensures in
    (j.0 ∙ q.table.0.0, (let w = q.table.0.1 in omega arith), compares _ _ _ _ _ _ (ap (λ (m : SeatState g.row.T.Denot g.row.T-Step.Denot g.row.T-Reply.Denot). m.0.place) j.2 ∙ q.free.0))

pub returns-clause-parts : goal.returns-clause-parts
returns-clause-parts g c = let s = ap (λ (m : SeatState g.row.T.Denot g.row.T-Step.Denot g.row.T-Reply.Denot). m) c.join_seat.ensures.2 in subst (λ (m : SeatState g.row.T.Denot g.row.T-Step.Denot g.row.T-Reply.Denot). AllParts m.0.seen m.0.mail m.0.parts) s c.load.ensures.2.1
