use Rattle.std.proofs.Common.{◌<◌, length, arith}
use Rattle.node_sessions.specs.Seats.{told}
use Rattle.node_sessions.proofs.SeatLemmas.{one_told}
use Rattle.node_sessions.proofs.mail.hear_all.Goals as goal

pub loop-seat-preserved : goal.loop-seat-preserved
loop-seat-preserved g c =
    let low : c.loop-seat.seat-index < length c.args.seats.now = omega arith in
    one_told (told c.args.count c.args.shard c.args.bits) c.args.seats.now c.loop-seat.seats c.loop-seat.seat-index c.seat-item.result c.hear.new.self low c.loop-seat.invariant c.hear.ensures
