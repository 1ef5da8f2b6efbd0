use Rattle.session_drive.proofs.AnswerLemmas.{one_said}
use Rattle.session_drive.proofs.says.say_once.Goals as goal

pub returns : goal.returns
returns g c = one_said _ _ _ _ _ _ c.say_after.ensures
