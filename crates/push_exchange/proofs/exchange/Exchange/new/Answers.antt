use Rattle.push_exchange.proofs.DeskParts.{fresh_view, honest_view}
use Rattle.push_exchange.proofs.RoundLemmas.{opened_seated}
use Rattle.push_exchange.proofs.exchange.Exchange.new.Goals as goal

pub invariant_of-passes : goal.invariant_of-passes
invariant_of-passes g c = rw c.in_ok-halls.ensures.second (opened_seated _ _ c.in_ok-opened.ensures)

pub returns-clause-over : goal.returns-clause-over
returns-clause-over g c = rw c.in_ok-halls.ensures.first (opened_seated _ _ c.in_ok-opened.ensures).over

pub returns-clause-fresh : goal.returns-clause-fresh
returns-clause-fresh g c = fresh_view _ _ c.in_ok-opened.ensures

pub returns-clause-honest : goal.returns-clause-honest
returns-clause-honest g c = honest_view _ _ (opened_seated _ _ c.in_ok-opened.ensures)
