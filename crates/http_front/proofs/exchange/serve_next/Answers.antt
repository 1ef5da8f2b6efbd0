use Rattle.std.proofs.Common.{inr}
use Rattle.http_front.proofs.StepLemmas.{broken, exchanged, next_exchanged}
use Rattle.http_front.proofs.exchange.serve_next.Goals as goal

pub returns-in-Ok-clause-next : goal.returns-in-Ok-clause-next
returns-in-Ok-clause-next g c =
    next_exchanged (g.C.Clock.moment c.args.clock.now) c.args.count c.answer.result _ _ _ _
    (exchanged (g.C.Clock.moment c.args.clock.now) c.args.count _ c.answer.result _ _ _ _ _ _ _ _ c.pause.ensures.left c.in-Ok.ensures.ok c.pause.ensures.written c.next_request.ensures.kept c.answer.ensures.answers)

pub returns-in-Err-clause-next : goal.returns-in-Err-clause-next
returns-in-Err-clause-next g c =
    inr (broken c.in-Err.fault c.tell_fault.result c.args.rest.now _ _ _ _ _ _ _ c.pause.ensures.left c.in-Err.ensures.err c.tell_fault.ensures.kept c.pause.ensures.written c.next_request.ensures.kept c.tell_fault.ensures.told)
