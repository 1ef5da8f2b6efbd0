use Rattle.std.proofs.Common.{sym}
use Rattle.turn_board.proofs.Opening.{begins}
use Rattle.turn_board.proofs.pass.Board.new.Goals as goal

pub new-requires : goal.new-requires
new-requires g c = begins g.T.Object.run g.T.Object.proper c.of-about.result.value c.in_ok-slots.slots.items c.args.object c.in_ok-slots.ensures (sym c.of-about.ensures)
