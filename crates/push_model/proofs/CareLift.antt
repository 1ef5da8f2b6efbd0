-- A step on one cell, and what it does to the care for the world.
use Rattle.std.proofs.Common.{◌≡◌, ℕ, Bool, true, false, cond, ◌⊎◌, inl, inr, List, [], ◌∷◌, refl, ap, sym, subst, Ordering, Less, Equal, Greater}
use Rattle.std.specs.Prelude.{Option, Some, None, find, if◌then◌else◌, map}
use Rattle.std.specs.Map.{lookup, set_value, remove_entry}
use Rattle.std.specs.Ordering.{nat_cmp, match_ordering}
use Rattle.std.specs.BTreeMap.{insert_entry}
use Rattle.push_model.specs.declared.ids.Uaid.{Uaid}
use Rattle.push_model.specs.declared.ids.Op.{Op}
use Rattle.push_model.specs.Cells.{Cell, is_there}
use Rattle.push_model.specs.Outcomes.{Outcome}
use Rattle.push_model.specs.Worlds.{World, found_or_empty, cell_at, put_beside, on_cell, on_flight, on_flight_of, has_flight_in}
use Rattle.push_model.proofs.Members.{In, from_map}
use Rattle.push_model.proofs.Entries.{at, lookup_in}
use Rattle.push_model.proofs.Care.{CareFacts, empty_care}

-- each cell has its facts
abbrev pub AllCared : List (ℕ × Cell) → Type 0
AllCared es = (e : ℕ × Cell) → In e es → CareFacts e.1

-- ---- the cells with v among them: each other was there

set_cons : (v : Cell) (b : Bool) (d e : ℕ × Cell) (es fs : List (ℕ × Cell)) → (In e fs → In e es ⊎ (e.1 ≡ v)) → In e (cond b ((d.0, v) ∷ es) (d ∷ fs)) →
    In e (d ∷ es) ⊎ (e.1 ≡ v)
set_cons v true d e es fs f (inl q) = inr (ap (λ y. y.1) q)
set_cons v true d e es fs f (inr i) = inl (inr i)
set_cons v false d e es fs f (inl q) = inl (inl q)
set_cons v false d e es fs f (inr i) = elim (f i) [ inl j ↦ inl (inr j) | inr q ↦ inr q ]

set_back : (n : ℕ) (v : Cell) (e : ℕ × Cell) (es : List (ℕ × Cell)) → In e (set_value (at n) es v) → In e es ⊎ (e.1 ≡ v)
set_back n v e [] i = elim i [ ]
set_back n v e (d ∷ es) i = set_cons v (at n d.0) d e es (set_value (at n) es v) (set_back n v e es) i

insert_cons : (n : ℕ) (v : Cell) (o : Ordering) (d e : ℕ × Cell) (es fs : List (ℕ × Cell)) → (In e fs → In e es ⊎ (e.1 ≡ v)) →
    In e (match_ordering o ((n, v) ∷ d ∷ es) ((d.0, v) ∷ es) (d ∷ fs)) → In e (d ∷ es) ⊎ (e.1 ≡ v)
insert_cons n v Less d e es fs f (inl q) = inr (ap (λ y. y.1) q)
insert_cons n v Less d e es fs f (inr i) = inl i
insert_cons n v Equal d e es fs f (inl q) = inr (ap (λ y. y.1) q)
insert_cons n v Equal d e es fs f (inr i) = inl (inr i)
insert_cons n v Greater d e es fs f (inl q) = inl (inl q)
insert_cons n v Greater d e es fs f (inr i) = elim (f i) [ inl j ↦ inl (inr j) | inr q ↦ inr q ]

insert_back : (n : ℕ) (v : Cell) (e : ℕ × Cell) (es : List (ℕ × Cell)) → In e (insert_entry nat_cmp es n v) → In e es ⊎ (e.1 ≡ v)
insert_back n v e [] (inl q) = inr (ap (λ y. y.1) q)
insert_back n v e [] (inr i) = elim i [ ]
insert_back n v e (d ∷ es) i = insert_cons n v (nat_cmp n d.0) d e es (insert_entry nat_cmp es n v) (insert_back n v e es) i

beside_back : (u : Uaid) (v : Cell) (o : Option Cell) (es : List (ℕ × Cell)) (e : ℕ × Cell) → In e (put_beside o u v es) → In e es ⊎ (e.1 ≡ v)
beside_back u v None es e i = insert_back u.0 v e es i
beside_back u v (Some c) es e i = set_back u.0 v e es i

rem_cons : (b : Bool) (d e : ℕ × Cell) (es fs : List (ℕ × Cell)) → (In e fs → In e es) → In e (cond b es (d ∷ fs)) → In e (d ∷ es)
rem_cons true d e es fs f i = inr i
rem_cons false d e es fs f (inl q) = inl q
rem_cons false d e es fs f (inr i) = inr (f i)

rem_in : (n : ℕ) (e : ℕ × Cell) (es : List (ℕ × Cell)) → In e (remove_entry (at n) es) → In e es
rem_in n e [] i = elim i [ ]
rem_in n e (d ∷ es) i = rem_cons (at n d.0) d e es (remove_entry (at n) es) (rem_in n e es) i

pub put_back : (u : Uaid) (v : Cell) (o : Option Cell) (es : List (ℕ × Cell)) (e : ℕ × Cell) (b : Bool) →
    In e (if b then put_beside o u v es else remove_entry (at u.0) es) → In e es ⊎ (e.1 ≡ v)
put_back u v o es e true i = beside_back u v o es e i
put_back u v o es e false i = inl (rem_in u.0 e es i)

-- ---- a step on one cell

cared_of : (u : Uaid) (es : List (ℕ × Cell)) (o : Option Cell) → AllCared es → lookup (at u.0) es ≡ o → CareFacts (found_or_empty o u)
cared_of u es None h e = empty_care u
cared_of u es (Some c) h e = let a = lookup_in u.0 es c e in subst CareFacts a.3 (h a.0 a.1)

-- the cell of each user has its facts
pub cared_at : (w : World) (u : Uaid) → AllCared w.cells → CareFacts (cell_at w.cells u)
cared_at w u h = cared_of u w.cells (lookup (at u.0) w.cells) h refl

-- a step on the user u
pub on_cell_cared : (w : World) (u : Uaid) (f : Cell → Outcome) → AllCared w.cells → (CareFacts (cell_at w.cells u) → CareFacts (f (cell_at w.cells u)).cell) →
    AllCared (on_cell w u f).0.cells
on_cell_cared w u f h g e i =
    let v = (f (cell_at w.cells u)).cell in
    elim (put_back u v (lookup (at u.0) w.cells) w.cells e (is_there v) i) [ inl j ↦ h e j | inr q ↦ subst CareFacts (sym q) (g (cared_at w u h)) ]

flight_of_cared : (w : World) (f : Cell → Outcome) (e : Option (ℕ × Cell)) → AllCared w.cells → ((c : Cell) → CareFacts c → CareFacts (f c).cell) →
    AllCared (on_flight_of e w f).0.cells
flight_of_cared w f None h g = h
flight_of_cared w f (Some e) h g = on_cell_cared w e.1.uaid f h (g (cell_at w.cells e.1.uaid))

-- a step on the user whose flight it is
pub on_flight_cared : (w : World) (o : Op) (f : Cell → Outcome) → AllCared w.cells → ((c : Cell) → CareFacts c → CareFacts (f c).cell) →
    AllCared (on_flight w o f).0.cells
on_flight_cared w o f h g = flight_of_cared w f (find (has_flight_in o) w.cells) h g

-- a step on every user
pub on_all_cared : (f : Cell → Cell) (es : List (ℕ × Cell)) → AllCared es → ((c : Cell) → CareFacts c → CareFacts (f c)) →
    AllCared (map (λ (e : ℕ × Cell). (e.0, f e.1)) es)
on_all_cared f es h g e i = let a = from_map (λ (e : ℕ × Cell). (e.0, f e.1)) e es i in subst (λ (y : ℕ × Cell). CareFacts y.1) (sym a.2) (g a.0.1 (h a.0 a.1))
