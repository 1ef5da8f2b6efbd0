use Rattle.std.proofs.Common.{◌≡◌, false, ap, sym, arith, ◌<◌}
use Rattle.std.specs.List.{list_any}
use Rattle.push_model.proofs.KeyedLemmas.{without_first-absent}
use Rattle.clock_expiry.specs.Dues.{has_come, due_id}
use Rattle.clock_expiry.proofs.DueLemmas.{find-absent, none_read}
use Rattle.clock_expiry.proofs.dues.Due.take_due.Goals as goal
use Rattle.clock_expiry.proofs.dues.Due.take_due.Goals.{Then-seconds-expires}

-- no entry's moment has come
none : (c : Then-seconds-expires) → list_any (has_come c.args.now) c.args.self.now.entries ≡ false
none c =
    let before : c.args.now < c.in_ok-expires.field-0.now.0 = omega (arith, c.seconds.ensures.value) in
    rw (← c.self.view_is, ← c.deref.ensures.value)
    (none_read _ _ c.args.now c.in_ok-expires.ensures.value (rw c.deref.ensures.value c.self.invariant.1) before)

pub returns-then-seconds-expires-clause-id : goal.returns-then-seconds-expires-clause-id
returns-then-seconds-expires-clause-id c = sym (ap due_id (find-absent (has_come c.args.now) c.args.self.now.entries (none c)))

pub returns-then-seconds-expires-clause-entries : goal.returns-then-seconds-expires-clause-entries
returns-then-seconds-expires-clause-entries c = sym (without_first-absent (has_come c.args.now) c.args.self.now.entries (none c))
