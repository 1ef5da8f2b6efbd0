use Rattle.std.proofs.Common.{refl}
use Rattle.session_drive.proofs.SaveLemmas.{closed_none, closed_some}
use Rattle.session_drive.proofs.saves.hand_over.Goals as goal

pub returns-in-None-clause-steps : goal.returns-in-None-clause-steps
returns-in-None-clause-steps g c = closed_none c.args.shard c.args.s _ _ _ refl refl c.in-None.ensures.step

pub returns-in-Some-clause-steps : goal.returns-in-Some-clause-steps
returns-in-Some-clause-steps g c = closed_some c.args.shard c.args.s _ c.in-Some.held _ _ _ _ c.release.ensures.step.0 c.in-Some.ensures.step c.release.ensures.step.1 c.release.ensures.mail c.save_all.ensures.steps
