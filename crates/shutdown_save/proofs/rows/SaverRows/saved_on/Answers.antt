use Rattle.std.proofs.Common.{refl}
use Rattle.shutdown_save.proofs.rows.SaverRows.saved_on.Goals as goal

pub returns : goal.returns
returns c = λ r e. rw (c.left_on.ensures, c.deref.ensures.value, ← c.self.view_is, ← e) refl
