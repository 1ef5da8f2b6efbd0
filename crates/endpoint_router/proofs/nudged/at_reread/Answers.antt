use Rattle.std.proofs.Common.{sym}
use Rattle.std.specs.Prelude.{Ok}
use Rattle.endpoint_router.proofs.NudgeLemmas.{reread_ends, reread_flies, reread_went}
use Rattle.endpoint_router.proofs.nudged.at_reread.Goals as goal

pub at_nudge-requires : goal.at_nudge-requires
at_nudge-requires g c =
    reread_flies (g.D.Desks.view c.args.desks.now) (g.D.Desks.view c.make_free-reply.new.desks) c.args.x c.make_free-reply.result c.requires c.make_free-reply.ensures.made c.make_free-reply.ensures.mail
    c.in-Some.node (sym c.in-Some.ensures)

pub returns-in-Some-clause-went : goal.returns-in-Some-clause-went
returns-in-Some-clause-went g c =
    reread_went (g.D.Desks.view c.args.desks.now) (g.D.Desks.view c.make_free-reply.new.desks) c.args.x c.make_free-reply.result c.requires c.make_free-reply.ensures.made c.make_free-reply.ensures.mail
    (g.D.Desks.view c.at_nudge.new.desks) _ (Ok c.at_nudge.result) c.in-Some.node (sym c.in-Some.ensures) c.at_nudge.ensures.went

pub returns-clause-went : goal.returns-clause-went
returns-clause-went g c = reread_ends (g.D.Desks.view c.args.desks.now) (g.D.Desks.view c.make_free-reply.new.desks) c.args.x c.make_free-reply.result c.requires c.make_free-reply.ensures.made c.make_free-reply.ensures.mail _ (sym c.in-None.ensures)
