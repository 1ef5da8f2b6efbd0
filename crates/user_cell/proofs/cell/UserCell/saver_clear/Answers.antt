use Rattle.user_cell.proofs.Room.{room_moved}
use Rattle.user_cell.proofs.cell.UserCell.saver_clear.Goals as goal

pub invariant_of-self : goal.invariant_of-self
invariant_of-self c = (c.self-in-Clear.invariant.0, rw (c.advance.ensures.savers, c.advance.ensures.spare) (room_moved _ _ _ _ _ c.self-in-Clear.invariant.1))
