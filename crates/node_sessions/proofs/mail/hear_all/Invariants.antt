use Rattle.std.proofs.Common.{◌≡◌, ◌++◌, map, take, drop}
use Rattle.node_sessions.specs.Seats.{told}
use Rattle.node_sessions.proofs.mail.hear_all.Given as goal

abbrev pub invariant-loop-seat : goal.invariant-loop-seat
invariant-loop-seat g l = l.seats ≡ map (told l.count l.shard l.bits) (take l.seat-index l.fn.seats) ++ drop l.seat-index l.fn.seats
