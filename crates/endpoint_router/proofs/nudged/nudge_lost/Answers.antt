use Rattle.std.specs.Prelude.{Ok}
use Rattle.endpoint_router.proofs.NudgeLemmas.{nudge_lost_clears, nudge_lost_flies}
use Rattle.endpoint_router.proofs.nudged.nudge_lost.Goals as goal

pub at_clear-requires : goal.at_clear-requires
at_clear-requires g c =
    nudge_lost_flies (g.D.Desks.view c.args.desks.now) (g.D.Desks.view c.make_free.new.desks) c.args.x c.make_free.result c.requires c.make_free.ensures.made c.make_free.ensures.mail

pub returns : goal.returns
returns g c =
    nudge_lost_clears (g.D.Desks.view c.args.desks.now) (g.D.Desks.view c.make_free.new.desks) c.args.x c.make_free.result c.requires c.make_free.ensures.made c.make_free.ensures.mail
    (g.D.Desks.view c.at_clear.new.desks) (Ok c.at_clear.result) c.at_clear.ensures
