use Rattle.std.proofs.Common.{refl, Ok, Err}
use Rattle.session_front.proofs.pumps.turn_of.Goals as goal

pub returns-in-Ok : goal.returns-in-Ok
returns-in-Ok g c = (Ok c.in-Ok.turned, c.in-Ok.ensures.made, refl)

pub returns-in-Err : goal.returns-in-Err
returns-in-Err g c = (Err c.in-Err.end, c.in-Err.ensures.made, refl)
