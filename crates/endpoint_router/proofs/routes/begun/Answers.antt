use Rattle.std.proofs.Common.{sym}
use Rattle.endpoint_router.proofs.RouteLemmas.{begin_ends, gives_flies, gives_went, stores_flies, stores_went, went_none}
use Rattle.endpoint_router.proofs.routes.begun.Goals as goal

pub returns-in-Ends-clause-went : goal.returns-in-Ends-clause-went
returns-in-Ends-clause-went g c =
    went_none (g.D.Desks.view c.args.desks.now) c.args.shard _ _ (begin_ends (g.D.Desks.view c.args.desks.now) c.args.shard c.args.op c.args.ttl c.args.reply.now c.in-Ends.answer c.requires (sym c.in-Ends.ensures))

pub at_direct-requires : goal.at_direct-requires
at_direct-requires g c = gives_flies (g.D.Desks.view c.args.desks.now) c.args.shard c.args.op c.args.ttl c.args.reply.now c.in-Gives.id c.in-Gives.node c.requires (sym c.in-Gives.ensures)

pub returns-in-Gives-clause-went : goal.returns-in-Gives-clause-went
returns-in-Gives-clause-went g c =
    gives_went (g.D.Desks.view c.args.desks.now) c.args.shard c.args.op c.args.ttl (g.D.Desks.view c.at_direct.new.desks) _ c.at_direct.result c.args.reply.now c.in-Gives.id c.in-Gives.node (sym c.in-Gives.ensures) c.at_direct.ensures.went

pub at_store-requires : goal.at_store-requires
at_store-requires g c = stores_flies (g.D.Desks.view c.args.desks.now) c.args.shard c.args.op c.args.ttl c.args.reply.now c.in-Stores.id c.requires (sym c.in-Stores.ensures)

pub returns-in-Stores-clause-went : goal.returns-in-Stores-clause-went
returns-in-Stores-clause-went g c =
    stores_went (g.D.Desks.view c.args.desks.now) c.args.shard c.args.op c.args.ttl (g.D.Desks.view c.at_store.new.desks) _ c.at_store.result c.args.reply.now c.in-Stores.id (sym c.in-Stores.ensures) c.at_store.ensures.went
