use Rattle.session_drive.proofs.SaveLemmas.{shut_told}
use Rattle.session_drive.proofs.shuts.shut_on.Goals as goal

pub returns-in-Some-clause-made : goal.returns-in-Some-clause-made
returns-in-Some-clause-made g c = shut_told c.args.shard c.args.s c.hand_over-handover.result c.in-Some.node _ _ _ _ _ c.in-Some.is c.hand_over-handover.ensures.steps c.tell.ensures.tells
