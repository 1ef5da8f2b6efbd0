use Rattle.http_front.proofs.StepLemmas.{told_refusal}
use Rattle.http_front.proofs.exchange.tell_faulty.Goals as goal

pub returns-clause-written : goal.returns-clause-written
returns-clause-written g c = told_refusal c.tell_refusal.result _ _ c.args.close _ _ c.of_fault.ensures.value c.tell_refusal.ensures.written
