use Rattle.std.proofs.Common.{refl}
use Rattle.push_exchange.proofs.DeskParts.{asked_calls, asked_mails, closed_view}
use Rattle.push_exchange.proofs.exchange.Exchange.close.Goals as goal

pub returns-then-not-ask_all-clause-back : goal.returns-then-not-ask_all-clause-back
returns-then-not-ask_all-clause-back g c = (refl, asked_calls _ _ _ c.passes.view_is c.ask_all.ensures.asked, asked_mails _ _ _ c.passes.view_is c.ask_all.ensures.asked)

pub returns-clause-ok : goal.returns-clause-ok
returns-clause-ok g c = rw c.of.ensures (closed_view _ _ _ _ _ c.passes.view_is c.passes.invariant c.ask_all.ensures.asked c.finish_all.ensures c.legal_histories_are_accounted.ensures c.reached_worlds_go_on.ensures.onward c.reached_worlds_go_on.ensures.cared)
