use Rattle.std.proofs.Common.{true, false}
use Rattle.std.specs.Prelude.{Ok}
use Rattle.endpoint_router.proofs.NudgeLemmas.{nudge_loss_flies, nudge_loss_went, nudge_said_flies, nudge_said_went}
use Rattle.endpoint_router.proofs.WentLemmas.{linked_mail}
use Rattle.endpoint_router.proofs.nudged.at_nudge.Goals as goal

pub nudge_heard-requires : goal.nudge_heard-requires
nudge_heard-requires g c = nudge_said_flies (g.D.Desks.view c.args.desks.now) (g.D.Desks.view c.nudge.new.desks) c.args.x true c.requires c.in-Here.ensures.step (linked_mail (g.D.Desks.view c.args.desks.now) (g.D.Desks.view c.nudge.new.desks) c.args.x.shard c.args.node c.in-Here.ensures.mail)

pub returns-in-Here-clause-went : goal.returns-in-Here-clause-went
returns-in-Here-clause-went g c =
    nudge_said_went (g.D.Desks.view c.args.desks.now) (g.D.Desks.view c.nudge.new.desks) c.args.x true c.requires c.in-Here.ensures.step (linked_mail (g.D.Desks.view c.args.desks.now) (g.D.Desks.view c.nudge.new.desks) c.args.x.shard c.args.node c.in-Here.ensures.mail)
    (g.D.Desks.view c.nudge_heard.new.desks) _ (Ok c.nudge_heard.result) c.nudge_heard.ensures

pub nudge_heard-requires-in-NotHere : goal.nudge_heard-requires-in-NotHere
nudge_heard-requires-in-NotHere g c = nudge_said_flies (g.D.Desks.view c.args.desks.now) (g.D.Desks.view c.nudge.new.desks) c.args.x false c.requires c.in-NotHere.ensures.step (linked_mail (g.D.Desks.view c.args.desks.now) (g.D.Desks.view c.nudge.new.desks) c.args.x.shard c.args.node c.in-NotHere.ensures.mail)

pub returns-in-NotHere-clause-went : goal.returns-in-NotHere-clause-went
returns-in-NotHere-clause-went g c =
    nudge_said_went (g.D.Desks.view c.args.desks.now) (g.D.Desks.view c.nudge.new.desks) c.args.x false c.requires c.in-NotHere.ensures.step (linked_mail (g.D.Desks.view c.args.desks.now) (g.D.Desks.view c.nudge.new.desks) c.args.x.shard c.args.node c.in-NotHere.ensures.mail)
    (g.D.Desks.view c.nudge_heard-in-NotHere.new.desks) _ (Ok c.nudge_heard-in-NotHere.result) c.nudge_heard-in-NotHere.ensures

pub nudge_lost-requires : goal.nudge_lost-requires
nudge_lost-requires g c = nudge_loss_flies (g.D.Desks.view c.args.desks.now) (g.D.Desks.view c.nudge.new.desks) c.args.x c.requires (linked_mail (g.D.Desks.view c.args.desks.now) (g.D.Desks.view c.nudge.new.desks) c.args.x.shard c.args.node c.in-Lost.ensures.mail) c.in-Lost.ensures.step

pub returns-in-Lost-clause-went : goal.returns-in-Lost-clause-went
returns-in-Lost-clause-went g c =
    nudge_loss_went (g.D.Desks.view c.args.desks.now) (g.D.Desks.view c.nudge.new.desks) c.args.x c.requires (linked_mail (g.D.Desks.view c.args.desks.now) (g.D.Desks.view c.nudge.new.desks) c.args.x.shard c.args.node c.in-Lost.ensures.mail) (g.D.Desks.view c.nudge_lost.new.desks) _ (Ok c.nudge_lost.result)
    c.in-Lost.ensures.step c.in-Lost.ensures.cause.1 c.nudge_lost.ensures
