use Rattle.user_cell.proofs.Room.{room_moved}
use Rattle.user_cell.proofs.cell.UserCell.saver_reread.Goals as goal

pub invariant_of-self : goal.invariant_of-self
invariant_of-self c = (c.self.invariant.0, rw (c.advance-advance.ensures.savers, c.advance-advance.ensures.spare) (room_moved _ _ _ _ _ c.self.invariant.1))
