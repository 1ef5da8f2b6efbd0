use Rattle.endpoint_router.proofs.NudgeLemmas.{clear_went}
use Rattle.endpoint_router.proofs.nudged.at_clear.Goals as goal

pub returns : goal.returns
returns g c = clear_went (g.D.Desks.view c.args.desks.now) (g.D.Desks.view c.make_free.new.desks) c.args.x c.make_free.result c.requires c.make_free.ensures.made c.make_free.ensures.mail
