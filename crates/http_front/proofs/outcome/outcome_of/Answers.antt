use Rattle.std.proofs.Common.{subst}
use Rattle.http_front.specs.Faults.{IsJudged}
use Rattle.http_front.proofs.ComingLemmas.{comes_faulty, comes_routed, comes_unread}
use Rattle.http_front.proofs.outcome.outcome_of.Goals as goal

pub returns-in-Ok-Asked-clause-comes : goal.returns-in-Ok-Asked-clause-comes
returns-in-Ok-Asked-clause-comes g c =
    comes_routed (g.C.Clock.moment c.args.clock.now) c.args.ops.now.k c.args.request (g.D.Desks.view c.args.desks.now) _ c.in-Ok-Asked.token c.in-Ok-Asked.ask _ _ _ _ c.route_asked.ensures.number (subst (λ z. IsJudged z c.args.request) c.in-Ok-Asked.field-0-is c.in-Ok-Asked.ensures)
    c.route_asked.ensures.routes

pub returns-in-Ok-Faulty-clause-comes : goal.returns-in-Ok-Faulty-clause-comes
returns-in-Ok-Faulty-clause-comes g c =
    comes_faulty (g.C.Clock.moment c.args.clock.now) c.args.ops.now.k c.args.request (g.D.Desks.view c.args.desks.now) c.in-Ok-Faulty.fault _ _ (subst (λ z. IsJudged z c.args.request) c.in-Ok-Faulty.field-0-is c.in-Ok-Faulty.ensures)

pub returns-in-Err-clause-comes : goal.returns-in-Err-clause-comes
returns-in-Err-clause-comes g c = comes_unread (g.C.Clock.moment c.args.clock.now) c.args.ops.now.k c.args.request (g.D.Desks.view c.args.desks.now) _ _
