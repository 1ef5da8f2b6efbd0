use Rattle.std.proofs.Common.{arith}
use Rattle.turn_board.proofs.Tickets.{looks}
use Rattle.turn_board.proofs.turns.look.Goals as goal

pub load-requires : goal.load-requires
load-requires g c = (c.requires.table.0, (let w = c.requires.table.1 in omega arith), looks _ _ _ _ _ _ _ c.requires.waits.0 c.requires.waits.2)
