use Rattle.http_front.proofs.StepLemmas.{answered_err, answered_ok}
use Rattle.http_front.proofs.exchange.answer.Goals as goal

pub returns-in-Ok-clause-answers : goal.returns-in-Ok-clause-answers
returns-in-Ok-clause-answers g c =
    answered_ok (g.C.Clock.moment c.args.clock.now) c.args.count c.args.request _ _ _ _ _ _ c.request_end-wish.ensures c.outcome_of-outcome.ensures.comes c.end_after-end.ensures c.is_some.ensures c.tell.ensures.kept
    _ _ c.in-Ok.is c.tell.ensures.written

pub returns-in-Err-clause-answers : goal.returns-in-Err-clause-answers
returns-in-Err-clause-answers g c =
    answered_err (g.C.Clock.moment c.args.clock.now) c.args.count c.args.request _ _ _ _ _ _ c.request_end-wish.ensures c.outcome_of-outcome.ensures.comes c.end_after-end.ensures c.is_some.ensures c.tell.ensures.kept
    _ _ _ _ _ c.in-Err.is c.tell.ensures.cause c.tell.ensures.written
