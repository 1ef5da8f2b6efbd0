-- Kill keeps pool and world in step.
use Rattle.std.proofs.Common.{◌≡◌, ℕ, Bool, true, false, not, ◌⊎◌, inl, inr, List, [], ◌∷◌, filter, refl, ◌∙◌, ap, sym, subst, arith, is_some}
use Rattle.std.specs.Prelude.{map, Option, Some, None, ◌==◌, if◌then◌else◌}
use Rattle.std.specs.List.{list_any, flat_map}
use Rattle.std.proofs.lemmas.Bool.Decides.{nat_tests}
use Rattle.push_model.specs.declared.parts.Row.{Row}
use Rattle.push_model.specs.MessageValue.{MessageValue}
use Rattle.push_model.specs.Sessions.{Session, held}
use Rattle.push_model.specs.Cells.{Cell, User, Saver, rows_of, channels_of, is_channel}
use Rattle.push_model.specs.NodeSteps.{orphaned, with_orphans, killed}
use Rattle.push_model.specs.Worlds.{World}
use Rattle.push_model.specs.ShardSteps.{kill, up}
use Rattle.push_model.specs.Pools.{Pool, Strike, is_live, after_all}
use Rattle.push_model.specs.Images.{messages_on, once, numbers_on}
use Rattle.push_model.proofs.Members.{In, among, in-append, in-append_left, in-append_right, in-filter, in_filter, in-flat_map, from_flat_map, in-map, from_map}
use Rattle.push_model.proofs.Reasons.{HasReason}
use Rattle.push_model.proofs.Growth.{Nobody, IsStruck, taken_live}
use Rattle.push_model.proofs.Events.{strikes_steady, strikes_meet, strikes_strike, struck_reason}
use Rattle.push_model.proofs.CellFacts.{number, IsRow, IsHeld, IsSaved, IsStored, IsCopy, CellFacts, copy_own, facts_steady}
use Rattle.push_model.proofs.InStep.{InStep, Stepped}
use Rattle.push_model.proofs.Lift.{Changed}
use Rattle.push_model.proofs.LiftEach.{lift_each}

-- ---- the rows are those that were there

orphan_messages : (n : ℕ) (vs : List Saver) (rs : List Row) → map (λ r. r.message) (map (orphaned n vs) rs) ≡ map (λ r. r.message) rs
orphan_messages n vs [] = refl
orphan_messages n vs (r ∷ rs) = ap (λ ms. r.message ∷ ms) (orphan_messages n vs rs)

orphan_rows : (n : ℕ) (vs : List Saver) (o : Option User) → map (λ r. r.message) (rows_of (with_orphans n vs o)) ≡ map (λ r. r.message) (rows_of o)
orphan_rows n vs None = refl
orphan_rows n vs (Some u) = orphan_messages n vs u.rows

orphan_channels : (n : ℕ) (vs : List Saver) (o : Option User) → channels_of (with_orphans n vs o) ≡ channels_of o
orphan_channels n vs None = refl
orphan_channels n vs (Some u) = refl

pub row_then : (n : ℕ) (vs : List Saver) (o : Option User) (m : MessageValue) → IsRow m o → IsRow m (with_orphans n vs o)
row_then n vs o m i = subst (In m) (sym (orphan_rows n vs o)) i

row_before : (n : ℕ) (vs : List Saver) (o : Option User) (m : MessageValue) → IsRow m (with_orphans n vs o) → IsRow m o
row_before n vs o m i = subst (In m) (orphan_rows n vs o) i

-- ---- what the ended sessions and savers held

-- a session or saver on the node holds it
abbrev IsOn : ℕ → MessageValue → Cell → Type 0
IsOn n m c = In m (messages_on n c)

-- each of these is struck
abbrev AllStruck : Pool → ℕ → Cell → Type 0
AllStruck q n c = (m : MessageValue) → IsOn n m c → IsStruck (number m) q

session_stays : (n : ℕ) (c : Cell) (x : Session) (m : MessageValue) (b : Bool) → (x.node == n) ≡ b → In x c.sessions → In m (held x) → IsHeld m (killed n c).sessions ⊎ IsOn n m c
session_stays n c x m true e i j =
    inr (in-append_left m (flat_map held (filter (λ y. y.node == n) c.sessions)) _
    (in-flat_map held m x (filter (λ y. y.node == n) c.sessions) (in_filter (λ y. y.node == n) x c.sessions i e) j))
session_stays n c x m false e i j = inl (x, in_filter (λ y. not (y.node == n)) x c.sessions i (ap not e), j)

saver_stays : (n : ℕ) (c : Cell) (v : Saver) (m : MessageValue) (b : Bool) → (v.node == n) ≡ b → In v c.savers → In m v.held → IsSaved m (killed n c).savers ⊎ IsOn n m c
saver_stays n c v m true e i j =
    inr (in-append_right m (flat_map held (filter (λ y. y.node == n) c.sessions)) _
    (in-flat_map (λ y. y.held) m v (filter (λ y. y.node == n) c.savers) (in_filter (λ y. y.node == n) v c.savers i e) j))
saver_stays n c v m false e i j = inl (v, in_filter (λ y. not (y.node == n)) v c.savers i (ap not e), j)

-- a struck message that was kept is a row or has a reason; one that wasn't is lost
gone : (q : Pool) (n : ℕ) (c : Cell) (m : MessageValue) → CellFacts q c → AllStruck q n c → IsCopy m c → IsOn n m c → IsRow m c.user ⊎ HasReason q (number m)
gone q n c m h s i j = elim (struck_reason (number m) q (s m j)) [ inl k ↦ (h.copies m i).kept k | inr r ↦ inr r ]

still : (q : Pool) (n : ℕ) (c : Cell) (m : MessageValue) → IsRow m c.user ⊎ HasReason q (number m) → IsStored m (killed n c) ⊎ HasReason q (number m)
still q n c m (inl i) = inl (inl (row_then n c.savers c.user m i))
still q n c m (inr r) = inr r

stored_then : (q : Pool) (n : ℕ) (c : Cell) (m : MessageValue) → CellFacts q c → AllStruck q n c → IsStored m c → IsStored m (killed n c) ⊎ HasReason q (number m)
stored_then q n c m h s (inl i) = inl (inl (row_then n c.savers c.user m i))
stored_then q n c m h s (inr (inl i)) =
    elim (session_stays n c i.0 m (i.0.node == n) refl i.1 i.2) [ inl j ↦ inl (inr (inl j)) | inr j ↦ still q n c m (gone q n c m h s (inl (inr (inl i))) j) ]
stored_then q n c m h s (inr (inr i)) =
    elim (saver_stays n c i.0 m (i.0.node == n) refl i.1 i.2) [ inl j ↦ inl (inr (inr j)) | inr j ↦ still q n c m (gone q n c m h s (inl (inr (inr i))) j) ]

copy_before : (n : ℕ) (c : Cell) (m : MessageValue) → IsCopy m (killed n c) → IsCopy m c
copy_before n c m (inl (inl i)) = inl (inl (row_before n c.savers c.user m i))
copy_before n c m (inl (inr (inl i))) = inl (inr (inl (i.0, in-filter (λ y. not (y.node == n)) i.0 c.sessions i.1, i.2)))
copy_before n c m (inl (inr (inr i))) = inl (inr (inr (i.0, in-filter (λ y. not (y.node == n)) i.0 c.savers i.1, i.2)))
copy_before n c m (inr i) = inr i

copy_then : (q : Pool) (n : ℕ) (c : Cell) (m : MessageValue) → CellFacts q c → AllStruck q n c → IsCopy m c → IsCopy m (killed n c) ⊎ HasReason q (number m)
copy_then q n c m h s (inl i) = elim (stored_then q n c m h s i) [ inl j ↦ inl (inl j) | inr r ↦ inr r ]
copy_then q n c m h s (inr i) = inl (inr i)

told_then : (q : Pool) (n : ℕ) (c : Cell) (m : MessageValue) → CellFacts q c → AllStruck q n c → IsStored m c ⊎ HasReason q (number m) →
    IsStored m (killed n c) ⊎ HasReason q (number m)
told_then q n c m h s (inl i) = stored_then q n c m h s i
told_then q n c m h s (inr r) = inr r

-- ---- one cell

orphans_there : (n : ℕ) (vs : List Saver) (o : Option User) → is_some o ≡ true → is_some (with_orphans n vs o) ≡ true
orphans_there n vs None e = e
orphans_there n vs (Some u) e = refl

pub killed_changed : (q : Pool) (n : ℕ) (c : Cell) → CellFacts q c → AllStruck q n c → Changed q c (killed n c)
killed_changed q n c h s =
    record {
      same = refl;
      facts =
          record {
            user =
                record {
                  own = λ m i. h.user.own m (row_before n c.savers c.user m i);
                  kept = λ m i. h.user.kept m (row_before n c.savers c.user m i);
                  subscribed = λ k i. h.user.subscribed k (subst (In k) (orphan_channels n c.savers c.user) i);
                };
            sessions = λ x i. h.sessions x (in-filter (λ y. not (y.node == n)) x c.sessions i);
            savers = λ v i. h.savers v (in-filter (λ y. not (y.node == n)) v c.savers i);
            flights = h.flights;
            distinct = h.distinct;
            told = λ f i e. told_then q n c f.message h s (h.told f i e);
            copies = λ m i.
                let old = h.copies m (copy_before n c m i) in
                record {
                  kept = λ k. elim (old.kept k) [ inl j ↦ inl (row_then n c.savers c.user m j) | inr r ↦ inr r ];
                  channel = subst (λ ks. list_any (is_channel m.chid) ks ≡ true ⊎ HasReason q (number m)) (sym (orphan_channels n c.savers c.user)) old.channel;
                };
            housed =
                record {
                  claims = λ k i. orphans_there n c.savers c.user (h.housed.claims k (in-filter (λ y. not (y.node == n)) k c.claims i));
                  sessions = λ x i. orphans_there n c.savers c.user (h.housed.sessions x (in-filter (λ y. not (y.node == n)) x c.sessions i));
                  savers = λ v i. orphans_there n c.savers c.user (h.housed.savers v (in-filter (λ y. not (y.node == n)) v c.savers i));
                };
          };
      excused = λ m i. copy_then q n c m h s i;
    }

-- ---- each number once

once_step : (k n : ℕ) (b : Bool) (ns ms : List ℕ) → list_any (λ j. j == n) ns ≡ b → (In k ns → In k ms) → In k (n ∷ ns) → In k (if b then ms else n ∷ ms)
once_step k n true ns ms e f (inl q) =
    let a = among (λ j. j == n) ns e in
    let s : a.one ≡ k = same a.one n a.passes ∙ sym q in
    f (subst (λ z. In z ns) s a.member)
  where
    same : (a b : ℕ) → (a == b) ≡ true → a ≡ b
    same a b e = grind (arith, nat_tests)
once_step k n true ns ms e f (inr i) = f i
once_step k n false ns ms e f (inl q) = inl q
once_step k n false ns ms e f (inr i) = inr (f i)

once_has : (k : ℕ) (ns : List ℕ) → In k ns → In k (once ns)
once_has k [] i = i
once_has k (n ∷ ns) i = once_step k n (list_any (λ j. j == n) ns) ns (once ns) refl (once_has k ns) i

once_cons : (k n : ℕ) (b : Bool) (ns ms : List ℕ) → (In k ms → In k ns) → In k (if b then ms else n ∷ ms) → In k (n ∷ ns)
once_cons k n true ns ms f i = inr (f i)
once_cons k n false ns ms f (inl q) = inl q
once_cons k n false ns ms f (inr i) = inr (f i)

once_was : (k : ℕ) (ns : List ℕ) → In k (once ns) → In k ns
once_was k [] i = i
once_was k (n ∷ ns) i = once_cons k n (list_any (λ j. j == n) ns) ns (once ns) (once_was k ns) i

-- ---- the world

on_copy : (n : ℕ) (c : Cell) (m : MessageValue) → IsOn n m c → IsCopy m c
on_copy n c m i =
    elim (in-append m (flat_map held (filter (λ x. x.node == n) c.sessions)) _ i) [
      | inl j ↦ let r = from_flat_map held m (filter (λ x. x.node == n) c.sessions) j in inl (inr (inl (r.0, in-filter (λ x. x.node == n) r.0 c.sessions r.1, r.2)))
      | inr j ↦ let r = from_flat_map (λ v. v.held) m (filter (λ v. v.node == n) c.savers) j in inl (inr (inr (r.0, in-filter (λ v. v.node == n) r.0 c.savers r.1, r.2)))
    ]

on_live : (p : Pool) (w : World) (n : ℕ) (e : ℕ × Cell) (m : MessageValue) → InStep p w → In e w.cells → IsOn n m e.1 → is_live (number m) p ≡ true
on_live p w n e m h i j = taken_live m _ (copy_own p e.1 m (h.sound.cells e i) (on_copy n e.1 m j)).known

listed : (n : ℕ) (w : World) (e : ℕ × Cell) (m : MessageValue) → In e w.cells → IsOn n m e.1 → In (number m) (numbers_on n w)
listed n w e m i j =
    once_has (number m) (map (λ m. m.id.number) (flat_map (λ (e : ℕ × Cell). messages_on n e.1) w.cells))
    (in-map (λ m. m.id.number) m (flat_map (λ (e : ℕ × Cell). messages_on n e.1) w.cells) (in-flat_map (λ (e : ℕ × Cell). messages_on n e.1) m e w.cells i j))

listed_live : (p : Pool) (w : World) (n k : ℕ) → InStep p w → In k (numbers_on n w) → is_live k p ≡ true
listed_live p w n k h i =
    let r = from_map (λ m. m.id.number) k (flat_map (λ (e : ℕ × Cell). messages_on n e.1) w.cells) (once_was k _ i) in
    let e = from_flat_map (λ (e : ℕ × Cell). messages_on n e.1) r.0 w.cells r.1 in
    subst (λ z. is_live z p ≡ true) (sym r.2) (on_live p w n e.0 r.0 h e.1 e.2)

-- Kill keeps pool and world in step
pub kill_kept : (p : Pool) (w : World) (n : ℕ) → InStep p w → Stepped p (map Strike (numbers_on n w)) (kill n w).0
kill_kept p w n h =
    let ns = numbers_on n w in
    let q = after_all (map Strike ns) p in
    let g = strikes_steady Nobody ns p in
    record {
      meets = strikes_meet ns p (λ k i. listed_live p w n k h i);
      between =
          lift_each p q w (kill n w).0 (killed n) h refl (g.grew.clock ∙ h.sound.clock) (g.above w.next h.sound.above) (λ k l. g.live k l)
          (λ e i k. killed_changed q n e.1 (facts_steady p q e.1 g.grew k) (λ m j. strikes_strike (number m) ns p (listed n w e m i j) (on_live p w n e m h i j)));
    }

-- no fact looks at the nodes that are down
pub up_kept : (p : Pool) (w : World) (n : ℕ) → InStep p w → Stepped p [] (up n w).0
up_kept p w n h =
    let s = h.sound in
    record {
      meets = tt;
      between = record { sound = record { clock = s.clock; keys = s.keys; distinct = s.distinct; above = s.above; cells = s.cells }; excused = λ k l. inl (h.covered k l) };
    }
