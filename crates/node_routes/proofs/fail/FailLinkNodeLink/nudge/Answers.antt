use Rattle.std.proofs.Common.{ap}
use Rattle.push_model.specs.declared.step.Step.TheVariants.{Nudge}
use Rattle.node_routes.specs.Failing.{luck_of}
use Rattle.node_routes.proofs.LinkLemmas.{lucky_fails, lucky_links, lucky_posts}
use Rattle.node_routes.proofs.fail.FailLinkNodeLink.nudge.Goals as goal

pub returns-clause-step : goal.returns-clause-step
returns-clause-step g c =
    lucky_links (g.D.Desks.view c.args.desks.now) (g.D.Desks.view c.tell_by_luck.new.desks) c.args.shard c.args.node (Nudge c.args.actor) (luck_of c.args.self.now) c.tell_by_luck.result c.tell_by_luck.ensures.step

pub returns-clause-mail : goal.returns-clause-mail
returns-clause-mail g c =
    lucky_posts (g.D.Desks.view c.args.desks.now) (g.D.Desks.view c.tell_by_luck.new.desks) c.args.shard c.args.node (Nudge c.args.actor) (luck_of c.args.self.now) c.tell_by_luck.result c.tell_by_luck.ensures.step

pub returns-clause-cause : goal.returns-clause-cause
returns-clause-cause g c =
    lucky_fails (g.D.Desks.view c.args.desks.now) (g.D.Desks.view c.tell_by_luck.new.desks) c.args.shard c.args.node (Nudge c.args.actor) (luck_of c.args.self.now) c.tell_by_luck.result c.args.self.now.faults _ c.tell_by_luck.ensures.step
    c.tell_by_luck.ensures.never_falls (ap (λ s. s.faults) c.tell_by_luck.ensures.after)
