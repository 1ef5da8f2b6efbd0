use Rattle.http_front.proofs.FreshLemmas.{flight_above, flight_routes, fresh_flight}
use Rattle.http_front.proofs.outcome.route_asked.Goals as goal

pub route-requires-clause-fresh : goal.route-requires-clause-fresh
route-requires-clause-fresh g c =
    fresh_flight (g.D.Desks.view c.args.desks.now) c.args.token _ _ _ c.args.ops.now.k _ c.count.ensures.value c.shard_of-shard.ensures.value c.shard_of-shard.ensures.within c.pass.ensures c.next-op.ensures.name c.requires.above

pub returns-clause-routes : goal.returns-clause-routes
returns-clause-routes g c =
    flight_routes (g.C.Clock.moment c.args.clock.now) (g.D.Desks.view c.args.desks.now) _ c.args.token _ _ _ _ _ c.args.ops.now.k c.second-now.ensures.0 _ _ _ _ c.count.ensures.value c.shard_of-shard.ensures.value c.pass.ensures c.next-op.ensures.name
    c.second-now.ensures.1 c.second-now.ensures.2 c.route.ensures.went

pub returns-clause-above : goal.returns-clause-above
returns-clause-above g c =
    flight_above (g.D.Desks.view c.args.desks.now) _ _ c.args.ops.now.k _ _ _ _ c.args.token _ _ _ c.next-op.ensures.name c.next-op.ensures.after c.requires.above c.route.ensures.went
