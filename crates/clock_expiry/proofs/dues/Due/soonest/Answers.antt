use Rattle.clock_expiry.proofs.DueLemmas.{soonest_read}
use Rattle.clock_expiry.proofs.dues.Due.soonest.Goals as goal

pub returns-clause-soonest : goal.returns-clause-soonest
returns-clause-soonest c =
    rw (← c.self.view_is, ← c.deref.ensures.value)
    (soonest_read _ _ c.in_ok-expires.ensures.value (rw c.deref.ensures.value c.self.invariant.1))
