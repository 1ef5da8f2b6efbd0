-- A step on every cell: what it owes of each cell alone, and what follows for the world. Tick is one.
use Rattle.std.proofs.Common.{◌≡◌, ℕ, ◌≤◌, Bool, true, false, not, ◌⊎◌, inl, inr, List, [], ◌∷◌, refl, ◌∙◌, ap, sym, subst, arith}
use Rattle.std.specs.Prelude.{filter, Option, Some, None, is_some, max}
use Rattle.std.proofs.lemmas.Bool.Decides.{nat_tests}
use Rattle.push_model.specs.declared.ids.Uaid.{Uaid}
use Rattle.push_model.specs.declared.ids.ChannelId.{ChannelId}
use Rattle.push_model.specs.declared.parts.Row.{Row}
use Rattle.push_model.specs.MessageValue.{MessageValue}
use Rattle.push_model.specs.Messages.{is_expired}
use Rattle.push_model.specs.Cells.{Cell, User}
use Rattle.push_model.specs.ClockSteps.{without_due, ticked}
use Rattle.push_model.specs.Worlds.{each, World}
use Rattle.push_model.specs.ShardSteps.{tick}
use Rattle.push_model.specs.Pools.{Taken, Pool, Tick, taken_at, is_live, is_above_all, reason_of, after}
use Rattle.push_model.specs.Images.{has_copy, has_copy_in}
use Rattle.push_model.proofs.Members.{In, Distinct, among, list_any-in, in-map, from_map, in-filter, in_filter}
use Rattle.push_model.proofs.Reasons.{HasReason, lasts_same, reason_of-lasts}
use Rattle.push_model.proofs.Leaves.{Excused, later_same}
use Rattle.push_model.proofs.Growth.{expired_reason}
use Rattle.push_model.proofs.CellFacts.{number, IsRow, IsCopy, HasChannel, UserFacts, CellFacts, Any, Holds, facts_onward}
use Rattle.push_model.proofs.InStep.{InStep, Between, Stepped, numbered, copy_numbered}
use Rattle.push_model.proofs.Lift.{Changed}
use Rattle.push_model.proofs.Changes.{user_changed}
use Rattle.push_model.proofs.Entries.{key}

-- ---- the world, where each cell owes nothing more

-- the entries of the changed cells
was : (f : Cell → Cell) (es : List (ℕ × Cell)) (e : ℕ × Cell) → In e (each f es) → (a : ℕ × Cell) × In a es × (e ≡ (a.0, f a.1))
was f es e i = from_map (λ (x : ℕ × Cell). (x.0, f x.1)) e es i

distinct_each : (f : Cell → Cell) (es : List (ℕ × Cell)) → Distinct key es → Distinct key (each f es)
distinct_each f [] d = d
distinct_each f (e ∷ es) d = (λ x i q. let a = was f es x i in d.0 a.0 a.1 (sym (ap key a.2) ∙ q), distinct_each f es d.1)

each_there : (f : Cell → Cell) (q : Pool) (w : World) (v : World) (n : ℕ) (e : ℕ × Cell) (m : MessageValue) → v.cells ≡ each f w.cells → In e w.cells →
    IsCopy m (f e.1) ⊎ HasReason q (number m) → number m ≡ n → Excused v q n
each_there f q w v n e m s i (inl j) k =
    let x : ℕ × Cell = (e.0, f e.1) in
    let there : In x (each f w.cells) = in-map (λ (y : ℕ × Cell). (y.0, f y.1)) e w.cells i in
    inl (subst (λ z. has_copy z v ≡ true) k (list_any-in (has_copy_in (number m)) x v.cells (subst (In x) (sym s) there) (copy_numbered m (f e.1) j)))
each_there f q w v n e m s i (inr r) k = inr (subst (HasReason q) k r)

-- pool and world are in step but for the Leaves
pub lift_each : (p q : Pool) (w v : World) (f : Cell → Cell) → InStep p w → v.cells ≡ each f w.cells → q.clock ≡ v.clock → is_above_all v.next q ≡ true →
    ((n : ℕ) → is_live n q ≡ true → is_live n p ≡ true) → ((e : ℕ × Cell) → In e w.cells → CellFacts p e.1 → Changed q e.1 (f e.1)) → Between q v
lift_each p q w v f s k t a l g =
    let old : (e : ℕ × Cell) → In e v.cells → (x : ℕ × Cell) × In x w.cells × (e ≡ (x.0, f x.1)) = λ e i. was f w.cells e (subst (In e) k i) in
    record {
      sound =
          record {
            clock = t;
            keys = λ e i. let x = old e i in
                ap key x.2 ∙ s.sound.keys x.0 x.1 ∙ sym (ap (λ u. u.0) (g x.0 x.1 (s.sound.cells x.0 x.1)).same) ∙ sym (ap (λ (y : ℕ × Cell). y.1.uaid.0) x.2);
            distinct = subst (Distinct key) (sym k) (distinct_each f w.cells s.sound.distinct);
            above = a;
            cells = λ e i. let x = old e i in subst (λ (y : ℕ × Cell). CellFacts q y.1) (sym x.2) (g x.0 x.1 (s.sound.cells x.0 x.1)).facts;
          };
      excused = λ n h.
          let e = among (has_copy_in n) w.cells (s.covered n (l n h)) in
          let m = numbered n e.one.1 e.passes in
          each_there f q w v n e.one m.message k e.member ((g e.one e.member (s.sound.cells e.one e.member)).excused m.message m.copy) m.same;
    }

-- ---- Tick: what is expired is expired later

expired_later : (k l : ℕ) (m : MessageValue) → k ≤ l → is_expired k m ≡ true → is_expired l m ≡ true
expired_later k l m h e = grind (arith, nat_tests)

reason_later : (t : ℕ) (p : Pool) (o : Option Taken) → is_some (reason_of p o) ≡ true → is_some (reason_of (after (Tick t) p) o) ≡ true
reason_later t p None h = h
reason_later t p (Some x) h =
    reason_of-lasts p (after (Tick t) p) x x (λ e. e) (λ e. expired_later p.clock (max p.clock t) x.message (omega arith) e) (lasts_same x) h

tick_holds : (t : ℕ) (p : Pool) → Holds Any p (after (Tick t) p)
tick_holds t p =
    record {
      onward = record { later = λ n. later_same (taken_at n p); known = λ m a h. h };
      reasons = λ m a h r. reason_later t p (taken_at (number m) p) r;
      kept = λ m a h k. k;
    }

tick_facts : (t : ℕ) (p : Pool) (c : Cell) → CellFacts p c → CellFacts (after (Tick t) p) c
tick_facts t p c h = facts_onward Any p (after (Tick t) p) c (tick_holds t p) (λ m i. tt) (λ f i. (h.flights f i).unanswered) (λ y i s. s) h

-- ---- the rows that are due go, each with its reason

due_back : (moment : ℕ) (o : Option User) (m : MessageValue) → IsRow m (without_due moment o) → IsRow m o
due_back moment None m i = i
due_back moment (Some u) m i =
    let r = from_map (λ x. x.message) m (filter (λ r. not (is_expired moment r.message)) u.rows) i in
    subst (λ k. IsRow k (Some u)) (sym r.2) (in-map (λ x. x.message) r.0 u.rows (in-filter (λ y. not (is_expired moment y.message)) r.0 u.rows r.1))

due_channel : (moment : ℕ) (o : Option User) (k : ChannelId) → HasChannel k o → HasChannel k (without_due moment o)
due_channel moment None k e = e
due_channel moment (Some u) k e = e

due_there : (moment : ℕ) (o : Option User) → is_some o ≡ true → is_some (without_due moment o) ≡ true
due_there moment None e = e
due_there moment (Some u) e = refl

due_facts : (q : Pool) (u : Uaid) (moment : ℕ) (o : Option User) → UserFacts q u o → UserFacts q u (without_due moment o)
due_facts q u moment None h = h
due_facts q u moment (Some x) h =
    record { own = λ m i. h.own m (due_back moment (Some x) m i); kept = λ m i. h.kept m (due_back moment (Some x) m i); subscribed = h.subscribed }

due_by : (moment : ℕ) (u : User) (r : Row) (m : MessageValue) (b : Bool) → m ≡ r.message → In r u.rows → is_expired moment r.message ≡ b →
    IsRow m (without_due moment (Some u)) ⊎ (is_expired moment m ≡ true)
due_by moment u r m true e i x = inr (ap (is_expired moment) e ∙ x)
due_by moment u r m false e i x =
    inl (subst (λ k. IsRow k (without_due moment (Some u))) (sym e) (in-map (λ y. y.message) r (filter (λ y. not (is_expired moment y.message)) u.rows)
    (in_filter (λ y. not (is_expired moment y.message)) r u.rows i (ap not x))))

due_or : (moment : ℕ) (o : Option User) (m : MessageValue) → IsRow m o → IsRow m (without_due moment o) ⊎ (is_expired moment m ≡ true)
due_or moment None m i = inl i
due_or moment (Some u) m i = let r = from_map (λ x. x.message) m u.rows i in due_by moment u r.0 m (is_expired moment r.0.message) r.2 r.1 refl

pub ticked_changed : (q : Pool) (c : Cell) → CellFacts q c → Changed q c (ticked q.clock c)
ticked_changed q c h =
    user_changed q c (without_due q.clock c.user) h (due_facts q c.uaid q.clock c.user h.user)
    (λ m i. inl (inl (due_back q.clock c.user m i))) (λ k e. due_channel q.clock c.user k e)
    (λ m i. elim (due_or q.clock c.user m i) [ inl j ↦ inl j | inr e ↦ inr (expired_reason q m (h.user.own m i).known e) ])
    (due_there q.clock c.user)

-- Tick keeps pool and world in step
pub tick_kept : (p : Pool) (w : World) (t : ℕ) → InStep p w → Stepped p (Tick t ∷ []) (tick t w).0
tick_kept p w t h =
    let q = after (Tick t) p in
    let same : q.clock ≡ max w.clock t = ap (λ k. max k t) h.sound.clock in
    record {
      meets = (tt, tt);
      between =
          lift_each p q w (tick t w).0 (ticked (max w.clock t)) h refl same h.sound.above (λ n l. l)
          (λ e i k. subst (λ n. Changed q e.1 (ticked n e.1)) same (ticked_changed q e.1 (tick_facts t p e.1 k)));
    }
