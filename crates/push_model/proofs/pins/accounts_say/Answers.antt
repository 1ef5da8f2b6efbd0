use Rattle.push_model.proofs.PinsAccounts.{found_live, live_found, copies_taken, flights_unanswered, answered_stored}
use Rattle.push_model.proofs.pins.accounts_say.Goals as goal

pub returns-clause-live : goal.returns-clause-live
returns-clause-live c = λ n p. (λ h. let a = live_found n p h in (a.taken, a.there, a.fact), found_live n p)

pub returns-clause-copied : goal.returns-clause-copied
returns-clause-copied c = λ p w h n. (h.covered n, h.known n)

pub returns-clause-same : goal.returns-clause-same
returns-clause-same c = copies_taken

pub returns-clause-flown : goal.returns-clause-flown
returns-clause-flown c = flights_unanswered

pub returns-clause-answered : goal.returns-clause-answered
returns-clause-answered c = answered_stored
