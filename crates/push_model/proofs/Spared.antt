-- A kill makes no message leave that has another copy, and what leaves as lost was never kept.
use Rattle.std.proofs.Common.{◌≡◌, ◌≢◌, ℕ, Bool, true, false, not, ◌&&◌, ◌||◌, ◌⊎◌, inl, inr, List, [], ◌∷◌, ◌++◌, refl, ◌∙◌, ap, sym, arith}
use Rattle.std.specs.Prelude.{map, Option, Some, None, ◌==◌, if◌then◌else◌}
use Rattle.std.specs.List.{list_any}
use Rattle.std.proofs.lemmas.Bool.Decides.{nat_tests}
use Rattle.push_model.specs.declared.step.Step.TheVariants.{Kill}
use Rattle.push_model.specs.declared.reply.Reply.{Reply}
use Rattle.push_model.specs.MessageValue.{MessageValue}
use Rattle.push_model.specs.Messages.{is_expired}
use Rattle.push_model.specs.Sessions.{held}
use Rattle.push_model.specs.Cells.{Cell, rows_of}
use Rattle.push_model.specs.NodeSteps.{killed}
use Rattle.push_model.specs.Worlds.{World}
use Rattle.push_model.specs.ShardSteps.{kill}
use Rattle.push_model.specs.Steps.{step}
use Rattle.push_model.specs.Histories.{entry}
use Rattle.push_model.specs.Pools.{Taken, Pool, Reason, Acknowledged, Expired, ChannelGone, UserGone, Refused, Zero, Lost, Strike, taken_at, is_live, is_refusal, late_reason, reason_after, replaced_by, reason_of, reason, after_all, IsAt}
use Rattle.push_model.specs.Images.{is_numbered, has_copy, has_copy_in, copies, leave_for, leave_of, leaves, numbers, numbers_on, image}
use Rattle.push_model.specs.Kills.{outlives_in, outlives, is_leave_of}
use Rattle.push_model.proofs.Members.{true_not_false, among, list_any-in, in-map, in_filter}
use Rattle.push_model.proofs.Marks.{and_left, and_right}
use Rattle.push_model.proofs.CellFacts.{IsCopy, copy_listed}
use Rattle.push_model.proofs.KillKept.{row_then}

-- ---- a message with a copy doesn't leave

any_none : {A : Type 0} (q : A → Bool) (xs ys : List A) → list_any q xs ≡ false → list_any q ys ≡ false → list_any q (xs ++ ys) ≡ false
any_none q [] ys e d = d
any_none q (x ∷ xs) ys e d = by_head (q x) (list_any q xs) (list_any q (xs ++ ys)) e (λ f. any_none q xs ys f d)
  where
    by_head : (a b c : Bool) → (a || b) ≡ false → (b ≡ false → c ≡ false) → (a || c) ≡ false
    by_head true b c e f = absurd (true_not_false e)
    by_head false b c e f = f e

other : (n k : ℕ) → n ≢ k → (n == k) ≡ false
other n k e = grind (arith, nat_tests)

for_other : (k n : ℕ) (o : Option Reason) → n ≢ k → list_any (is_leave_of k) (leave_for o n) ≡ false
for_other k n None e = refl
for_other k n (Some r) e = ap (λ b. b || false) (other n k e)

leave_by : (w : World) (p : Pool) (k n : ℕ) (l c : Bool) → has_copy k w ≡ true → has_copy n w ≡ c → (n ≡ k) ⊎ (n ≢ k) →
    list_any (is_leave_of k) (if l && not c then leave_for (reason p n) n else []) ≡ false
leave_by w p k n false c h e d = refl
leave_by w p k n true true h e d = refl
leave_by w p k n true false h e (inl d) = absurd (true_not_false (sym h ∙ ap (λ x. has_copy x w) (sym d) ∙ e))
leave_by w p k n true false h e (inr d) = for_other k n (reason p n) d

same_or_not : (n k : ℕ) → (n ≡ k) ⊎ (n ≢ k)
same_or_not n k = grind arith

no_leave : (w : World) (k : ℕ) (ns : List ℕ) (p : Pool) → has_copy k w ≡ true → list_any (is_leave_of k) (leaves w p ns) ≡ false
no_leave w k [] p h = refl
no_leave w k (n ∷ ns) p h =
    any_none (is_leave_of k) (leave_of w p n) (leaves w (after_all (leave_of w p n) p) ns)
    (leave_by w p k n (is_live n p) (has_copy n w) h refl (same_or_not n k)) (no_leave w k ns (after_all (leave_of w p n) p) h)

no_strike : (k : ℕ) (ns : List ℕ) → list_any (is_leave_of k) (map Strike ns) ≡ false
no_strike k [] = refl
no_strike k (n ∷ ns) = no_strike k ns

-- ---- what outlives the kill has a copy after it

copy_has : (k : ℕ) (c : Cell) (m : MessageValue) → is_numbered k m ≡ true → IsCopy m c → list_any (is_numbered k) (copies c) ≡ true
copy_has k c m e i = list_any-in (is_numbered k) m (copies c) (copy_listed m c i) e

any_cases : (a b c d : Bool) → (a || b || c || d) ≡ true → (a ≡ true) ⊎ ((b ≡ true) ⊎ ((c ≡ true) ⊎ (d ≡ true)))
any_cases true b c d e = inl refl
any_cases false true c d e = inr (inl refl)
any_cases false false true d e = inr (inr (inl refl))
any_cases false false false d e = inr (inr (inr e))

outlived : (n k : ℕ) (c : Cell) → outlives_in n k c ≡ true → list_any (is_numbered k) (copies (killed n c)) ≡ true
outlived n k c h =
    elim (any_cases (list_any (λ r. is_numbered k r.message) (rows_of c.user)) (list_any (λ x. not (x.node == n) && list_any (is_numbered k) (held x)) c.sessions) (list_any (λ v. not (v.node == n) && list_any (is_numbered k) v.held) c.savers) (list_any (λ f. is_numbered k f.message) c.flights) h) [
      | inl e ↦
          let a = among (λ r. is_numbered k r.message) (rows_of c.user) e in
          copy_has k (killed n c) a.one.message a.passes (inl (inl (row_then n c.savers c.user a.one.message (in-map (λ r. r.message) a.one (rows_of c.user) a.member))))
      | inr (inl e) ↦
          let a = among (λ x. not (x.node == n) && list_any (is_numbered k) (held x)) c.sessions e in
          let m = among (is_numbered k) (held a.one) (and_right (not (a.one.node == n)) (list_any (is_numbered k) (held a.one)) a.passes) in
          copy_has k (killed n c) m.one m.passes (inl (inr (inl (a.one, in_filter (λ x. not (x.node == n)) a.one c.sessions a.member (and_left (not (a.one.node == n)) (list_any (is_numbered k) (held a.one)) a.passes), m.member))))
      | inr (inr (inl e)) ↦
          let a = among (λ v. not (v.node == n) && list_any (is_numbered k) v.held) c.savers e in
          let m = among (is_numbered k) a.one.held (and_right (not (a.one.node == n)) (list_any (is_numbered k) a.one.held) a.passes) in
          copy_has k (killed n c) m.one m.passes (inl (inr (inr (a.one, in_filter (λ v. not (v.node == n)) a.one c.savers a.member (and_left (not (a.one.node == n)) (list_any (is_numbered k) a.one.held) a.passes), m.member))))
      | inr (inr (inr e)) ↦
          let a = among (λ f. is_numbered k f.message) c.flights e in
          copy_has k (killed n c) a.one.message a.passes (inr (in-map (λ f. f.message) a.one c.flights a.member))
    ]

has_after : (n k : ℕ) (w : World) → outlives n k w ≡ true → has_copy k (kill n w).0 ≡ true
has_after n k w h =
    let e = among (λ (e : ℕ × Cell). outlives_in n k e.1) w.cells h in
    let x : ℕ × Cell = (e.one.0, killed n e.one.1) in
    list_any-in (has_copy_in k) x (kill n w).0.cells (in-map (λ (y : ℕ × Cell). (y.0, killed n y.1)) e.one w.cells e.member) (outlived n k e.one.1 e.passes)

-- a kill makes no message leave that has another copy
pub spared : (p : Pool) (w : World) (n by k : ℕ) (reply : Reply) → outlives n k w ≡ true →
    list_any (is_leave_of k) (image p w (entry by (Kill n) reply)) ≡ false
spared p w n by k reply h =
    let v = (step w (Kill n)).0 in
    let es = map Strike (numbers_on n w) in
    any_none (is_leave_of k) es (leaves v (after_all es p) (numbers (after_all es p))) (no_strike k (numbers_on n w))
    (no_leave v k (numbers (after_all es p)) (after_all es p) (has_after n k w h))

-- ---- what leaves as lost

lost_by : (a b c d e : Bool) → (if a then Some ChannelGone else if b then Some UserGone else if c then Some Refused else if d then Some Zero else if e then Some Lost else None) ≡ Some Lost → e ≡ true
lost_by true b c d e h = cc
lost_by false true c d e h = cc
lost_by false false true d e h = cc
lost_by false false false true e h = cc
lost_by false false false false true h = refl
lost_by false false false false false h = cc

unkept : (t : Taken) → late_reason t ≡ Some Lost → t.kept ≡ false
unkept t h =
    not_kept t.kept (and_right t.struck (not t.kept) (lost_by t.unsubscribed t.dropped (is_refusal t.answer) (t.message.ask.terms.ttl == 0) (t.struck && not t.kept) h))
  where
    not_kept : (b : Bool) → not b ≡ true → b ≡ false
    not_kept true e = absurd (true_not_false (sym e))
    not_kept false e = refl

expired_or : (b : Bool) (t : Taken) → (if b then Some Expired else late_reason t) ≡ Some Lost → t.kept ≡ false
expired_or true t h = cc
expired_or false t h = unkept t h

after_lost : (o : Option ℕ) (clock : ℕ) (t : Taken) → reason_after o clock t ≡ Some Lost → t.kept ≡ false
after_lost (Some by) clock t h = cc
after_lost None clock t h = expired_or (is_expired clock t.message) t h

acked_or : (b : Bool) (o : Option ℕ) (clock : ℕ) (t : Taken) → (if b then Some Acknowledged else reason_after o clock t) ≡ Some Lost → t.kept ≡ false
acked_or true o clock t h = cc
acked_or false o clock t h = after_lost o clock t h

lost_at : (p : Pool) (o : Option Taken) → reason_of p o ≡ Some Lost → IsAt o (λ t. t.kept ≡ false)
lost_at p None h = cc
lost_at p (Some t) h = acked_or t.acked (replaced_by t.message p) p.clock t h

-- a message whose reason is Lost was never kept
pub never_kept : (p : Pool) (n : ℕ) → reason p n ≡ Some Lost → IsAt (taken_at n p) (λ t. t.kept ≡ false)
never_kept p n h = lost_at p (taken_at n p) h
