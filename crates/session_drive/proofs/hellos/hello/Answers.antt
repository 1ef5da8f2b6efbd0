use Rattle.session_drive.proofs.HelloLemmas.{attach_behind}
use Rattle.session_drive.proofs.hellos.hello.Goals as goal

pub returns-in-Ok-clause-made : goal.returns-in-Ok-clause-made
returns-in-Ok-clause-made g c = (c.millis-at.result, c.millis-at.ensures.told, attach_behind _ _ c.args.uaid c.in-Ok.s _ _ _ _ _ _ c.in-Ok.ensures c.attach.ensures.steps)
