use Rattle.std.proofs.Common.{arith}
use Rattle.turn_board.proofs.Numbering.{draws_number}
use Rattle.turn_board.proofs.seats.try_number.Goals as goal

pub compare_exchange-found-requires : goal.compare_exchange-found-requires
compare_exchange-found-requires g c = let q = c.requires in (q.table.0, (let w = q.table.1 in omega arith), draws_number _ _ _ _ _ _ _ q.free.0 q.free.1 q.free.2 q.room)
