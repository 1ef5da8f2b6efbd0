use Rattle.std.proofs.Common.{arith}
use Rattle.turn_board.proofs.Splitting.{splits}
use Rattle.turn_board.proofs.seats.split.Goals as goal

pub split_seat-requires : goal.split_seat-requires
split_seat-requires g c = let q = c.requires in (q.table.0, (let w = q.table.1 in omega arith), splits _ _ _ _ _ q.free)
