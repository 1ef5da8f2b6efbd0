use Rattle.session_drive.proofs.GoesLemmas.{quiet_runs}
use Rattle.session_drive.proofs.answers.acknowledge.Goals as goal

pub returns : goal.returns
returns g c = quiet_runs _ _ _ _ _ c.ack_all.ensures.steps c.ack_all.ensures.quiet
