-- What the small laws say of reasons.
use Rattle.std.proofs.Common.{◌≡◌, ℕ, Bool, true, false, ◌&&◌, not, ◌⊎◌, inl, inr, refl, ◌∙◌, ap, sym, arith}
use Rattle.std.specs.Prelude.{find, Option, Some, None, ◌==◌, ◌+◌, ◌<◌, Contains, if◌then◌else◌}
use Rattle.std.proofs.lemmas.Bool.Decides.{nat_tests}
use Rattle.push_model.specs.Messages.{is_expired}
use Rattle.push_model.specs.Pools.{Pool, Taken, Reason, Acknowledged, Replaced, Expired, taken_at, is_taken, replaces, replaced_by, is_refusal, late_reason, reason_after, reason_of, reason}
use Rattle.push_model.specs.Pins.{IsReplacedBy}
use Rattle.push_model.proofs.Members.{find_in, find_passes}
use Rattle.push_model.proofs.PinsPools.{contains, none_replaces, replacement}

-- the message under a number has it, and was taken
pub found_under : (n : ℕ) (p : Pool) (t : Taken) → taken_at n p ≡ Some t → (t.message.id.number ≡ n) × Contains p.taken t
found_under n p t e =
    let same : is_taken n t ≡ true = find_passes (is_taken n) t p.taken e in
    (grind (arith, nat_tests), contains t p.taken (find_in (is_taken n) t p.taken e))

-- ---- no reason

no_refusal : (o : Option ℕ) → (o ≡ None) ⊎ (o ≡ Some 201) → is_refusal o ≡ false
no_refusal o (inl e) = ap is_refusal e
no_refusal o (inr e) = ap is_refusal e

not_lost : (s k : Bool) → (s ≡ false) ⊎ (k ≡ true) → (s && not k) ≡ false
not_lost s k (inl e) = rw e refl
not_lost true k (inr e) = rw e refl
not_lost false k (inr e) = refl

above_zero : (n : ℕ) → 0 < n → (n == 0) ≡ false
above_zero n h = grind (arith, nat_tests)

not_expired : (moment : ℕ) (t : Taken) → moment < t.message.accepted + t.message.ask.terms.ttl → is_expired moment t.message ≡ false
not_expired moment t h = grind (arith, nat_tests)

none_late : (t : Taken) → t.unsubscribed ≡ false → t.dropped ≡ false → is_refusal t.answer ≡ false → (t.message.ask.terms.ttl == 0) ≡ false → (t.struck && not t.kept) ≡ false →
    late_reason t ≡ None
none_late t a b c d e = rw (a, b, c, d, e) refl

none_of : (p : Pool) (t : Taken) → t.acked ≡ false → replaced_by t.message p ≡ None → is_expired p.clock t.message ≡ false → late_reason t ≡ None →
    reason_of p (Some t) ≡ None
none_of p t a b c d = rw (a, b, c) d

pub no_reason : (n : ℕ) (p : Pool) (t : Taken) → taken_at n p ≡ Some t → t.acked ≡ false → ((x : Taken) → Contains p.taken x → IsReplacedBy t.message x → ⊥) →
    p.clock < t.message.accepted + t.message.ask.terms.ttl → t.unsubscribed ≡ false → t.dropped ≡ false → (t.answer ≡ None) ⊎ (t.answer ≡ Some 201) →
    0 < t.message.ask.terms.ttl → (t.struck ≡ false) ⊎ (t.kept ≡ true) → reason p n ≡ None
no_reason n p t e acked others clock unsubscribed dropped answer ttl struck =
    ap (reason_of p) e ∙
    none_of p t acked (none_replaces t.message p (find (replaces t.message) p.taken) refl others) (not_expired p.clock t clock)
    (none_late t unsubscribed dropped (no_refusal t.answer answer) (above_zero t.message.ask.terms.ttl ttl) (not_lost t.struck t.kept struck))

-- ---- what replaced it

late_unreplaced : (t : Taken) (k : ℕ) → late_reason t ≡ Some (Replaced k) → ⊥
late_unreplaced t k h = grind arith

after_replaced : (o : Option ℕ) (clock k : ℕ) (t : Taken) → reason_after o clock t ≡ Some (Replaced k) → o ≡ Some k
after_replaced (Some by) clock k t h = cc
after_replaced None clock k t h = expired_or (is_expired clock t.message) h
  where
    expired_or : (b : Bool) → (if b then Some Expired else late_reason t) ≡ Some (Replaced k) → None ≡ Some k
    expired_or true h = cc
    expired_or false h = absurd (late_unreplaced t k h)

acked_or : (b : Bool) (o : Option Reason) (k : ℕ) → (if b then Some Acknowledged else o) ≡ Some (Replaced k) → o ≡ Some (Replaced k)
acked_or true o k h = cc
acked_or false o k h = h

pub replaced_shown : (n k : ℕ) (p : Pool) (t : Taken) → taken_at n p ≡ Some t → reason p n ≡ Some (Replaced k) →
    (x : Taken) × Contains p.taken x × (x.message.id.number ≡ k) × IsReplacedBy t.message x
replaced_shown n k p t e h =
    let whole : reason_of p (Some t) ≡ Some (Replaced k) = sym (ap (reason_of p) e) ∙ h in
    let by = after_replaced (replaced_by t.message p) p.clock k t (acked_or t.acked (reason_after (replaced_by t.message p) p.clock t) k whole) in
    let r = replacement t.message p (find (replaces t.message) p.taken) k refl by in
    (r.by, r.there, r.number, r.replaces)
