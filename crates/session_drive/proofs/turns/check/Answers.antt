use Rattle.std.proofs.Common.{Some}
use Rattle.session_drive.proofs.turns.check.Goals as goal

pub returns-clause-asked : goal.returns-clause-asked
returns-clause-asked g c = record { reply = Some c.in-Ok.reply; calls = c.in-Ok.ensures.made; mail = c.in-Ok.ensures.mail; fits = c.in-Ok.ensures.fits; ends = c.due_by.ensures.ends; said = c.due_by.ensures.said _ }
