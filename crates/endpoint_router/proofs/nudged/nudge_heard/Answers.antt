use Rattle.std.proofs.Common.{sym, ◌∙◌}
use Rattle.std.specs.Prelude.{Ok}
use Rattle.endpoint_router.proofs.NudgeLemmas.{nudge_heard_clears, nudge_heard_ends, nudge_heard_flies}
use Rattle.endpoint_router.proofs.nudged.nudge_heard.Goals as goal

pub returns-then-ends : goal.returns-then-ends
returns-then-ends g c =
    nudge_heard_ends (g.D.Desks.view c.args.desks.now) (g.D.Desks.view c.make_free-reply.new.desks) c.args.x c.args.here c.make_free-reply.result c.requires c.make_free-reply.ensures.made c.make_free-reply.ensures.mail
    (sym c.ends.ensures ∙ c.if-ends.true)

pub at_clear-requires : goal.at_clear-requires
at_clear-requires g c =
    nudge_heard_flies (g.D.Desks.view c.args.desks.now) (g.D.Desks.view c.make_free-reply.new.desks) c.args.x c.args.here c.make_free-reply.result c.requires c.make_free-reply.ensures.made c.make_free-reply.ensures.mail
    (sym c.ends.ensures ∙ c.if-ends.false)

pub returns : goal.returns
returns g c =
    nudge_heard_clears (g.D.Desks.view c.args.desks.now) (g.D.Desks.view c.make_free-reply.new.desks) c.args.x c.args.here c.make_free-reply.result c.requires c.make_free-reply.ensures.made c.make_free-reply.ensures.mail
    (g.D.Desks.view c.at_clear.new.desks) (Ok c.at_clear.result) (sym c.ends.ensures ∙ c.if-ends.false) c.at_clear.ensures
