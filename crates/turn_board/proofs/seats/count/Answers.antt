use Rattle.std.proofs.Common.{arith}
use Rattle.turn_board.proofs.Numbering.{counts}
use Rattle.turn_board.proofs.seats.count.Goals as goal

pub load-requires : goal.load-requires
load-requires g c = let q = c.requires in (q.table.0, (let w = q.table.1 in omega arith), counts _ _ _ _ _ _ q.free)
