use Rattle.session_drive.proofs.SaveLemmas.{heard_cleared}
use Rattle.session_drive.proofs.shuts.hear_all.Goals as goal

pub returns-then-hear-clause-steps : goal.returns-then-hear-clause-steps
returns-then-hear-clause-steps g c = heard_cleared c.args.shard c.args.s c.args.answer c.make-reply.result _ _ _ c.if-hear.ensures.step c.make-reply.ensures.calls c.make-reply.ensures.mail
