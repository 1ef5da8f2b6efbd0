use Rattle.std.proofs.Common.{arith}
use Rattle.turn_board.proofs.Tickets.{draws}
use Rattle.turn_board.proofs.turns.draw_ticket.Goals as goal

pub fetch_add-requires : goal.fetch_add-requires
fetch_add-requires g c = (c.requires.table.0, (let w = c.requires.table.1 in omega arith), draws _ _ _ _ _ _ c.requires.free.0 c.requires.free.1)
