use Rattle.std.proofs.Common.{◌≡◌}
use Rattle.turn_board.specs.Seats.{IsSameSeat}
use Rattle.turn_board.proofs.turns.begin_turn.Given as goal

abbrev pub invariant-loop : goal.invariant-loop
invariant-loop g l = IsSameSeat l.initial.seat l.seat × (l.seat.me ≡ l.initial.seat.me)
