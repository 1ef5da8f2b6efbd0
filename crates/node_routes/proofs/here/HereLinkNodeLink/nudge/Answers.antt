use Rattle.push_model.specs.declared.step.Step.TheVariants.{Nudge}
use Rattle.node_routes.proofs.LinkLemmas.{links_of, only_posts}
use Rattle.node_routes.proofs.here.HereLinkNodeLink.nudge.Goals as goal

pub returns-clause-step : goal.returns-clause-step
returns-clause-step g c =
    links_of (g.D.Desks.view c.args.desks.now) (g.D.Desks.view c.tell.new.desks) c.args.shard c.args.node (Nudge c.args.actor) c.tell.result c.tell.ensures

pub returns-clause-mail : goal.returns-clause-mail
returns-clause-mail g c =
    only_posts (g.D.Desks.view c.args.desks.now) (g.D.Desks.view c.tell.new.desks) c.args.shard c.args.node (Nudge c.args.actor) c.tell.result c.tell.ensures
