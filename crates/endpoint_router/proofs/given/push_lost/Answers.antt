use Rattle.std.proofs.Common.{sym, ◌∙◌}
use Rattle.endpoint_router.proofs.GiveLemmas.{push_lost_ends, push_lost_flies, push_lost_stores}
use Rattle.endpoint_router.proofs.given.push_lost.Goals as goal

pub returns-then-ends-clause-went : goal.returns-then-ends-clause-went
returns-then-ends-clause-went g c =
    push_lost_ends (g.D.Desks.view c.args.desks.now) (g.D.Desks.view c.make_free-reply.new.desks) c.args.x c.make_free-reply.result c.requires c.make_free-reply.ensures.made c.make_free-reply.ensures.mail
    (sym c.ends.ensures ∙ c.if-ends.true)

pub at_store-requires : goal.at_store-requires
at_store-requires g c =
    push_lost_flies (g.D.Desks.view c.args.desks.now) (g.D.Desks.view c.make_free-reply.new.desks) c.args.x c.make_free-reply.result c.requires c.make_free-reply.ensures.made c.make_free-reply.ensures.mail
    (sym c.ends.ensures ∙ c.if-ends.false)

pub returns-clause-went : goal.returns-clause-went
returns-clause-went g c =
    push_lost_stores (g.D.Desks.view c.args.desks.now) (g.D.Desks.view c.make_free-reply.new.desks) c.args.x c.make_free-reply.result c.requires c.make_free-reply.ensures.made c.make_free-reply.ensures.mail
    (g.D.Desks.view c.at_store.new.desks) _ c.at_store.result (sym c.ends.ensures ∙ c.if-ends.false) c.at_store.ensures.went
