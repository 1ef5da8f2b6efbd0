use Rattle.std.proofs.Common.{ap}
use Rattle.turn_board.specs.Plays.{SeatState}
use Rattle.turn_board.proofs.turns.begin_turn.Goals as goal

pub take-requires-clause-turn : goal.take-requires-clause-turn
take-requires-clause-turn g c =
    let b = c.if-look_on.ensures.look in
    (b.home, ap (λ (m : SeatState g.row.T.Denot g.row.T-Step.Denot g.row.T-Reply.Denot). m.1) b.after)
