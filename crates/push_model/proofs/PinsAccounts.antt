-- What the small laws say of accounts and histories.
use Rattle.std.proofs.Common.{◌≡◌, ℕ, true, List, [], ◌∷◌, ◌++◌, refl, ap, sym, subst}
use Rattle.std.specs.Prelude.{Option, Some, None, is_some, is_none, All, Contains}
use Rattle.std.specs.List.{flat_map, AllByRecursion}
use Rattle.std.proofs.lemmas.List.Elements.{All-contains, All-from_recursion}
use Rattle.push_model.specs.declared.entry.Entry.{Entry}
use Rattle.push_model.specs.declared.parts.FlightRow.{FlightRow}
use Rattle.push_model.specs.declared.step.Step.{Step}
use Rattle.push_model.specs.declared.reply.Reply.{Reply}
use Rattle.push_model.specs.Cells.{Cell}
use Rattle.push_model.specs.Worlds.{World}
use Rattle.push_model.specs.Steps.{step}
use Rattle.push_model.specs.Histories.{IsLegal, history, world_after}
use Rattle.push_model.specs.Pools.{Pool, Taken, Reason, taken_at, is_live, is_live_at, IsAt, IsAsTaken}
use Rattle.push_model.specs.Images.{copies, is_stored_or_held}
use Rattle.push_model.specs.Accounting.{IsExact, IsAnswered}
use Rattle.push_model.proofs.Members.{In, in-flat_map, among}
use Rattle.push_model.proofs.PinsPools.{all_by, contains, contained}

-- a fact of a message that was taken, with that message
pub record Found (n : ℕ) (p : Pool) (P : Taken → Type 0) : Type 0 where
  pub taken : Taken
  pub there : taken_at n p ≡ Some taken
  pub fact : P taken

found_by : (n : ℕ) (p : Pool) (o : Option Taken) (P : Taken → Type 0) → taken_at n p ≡ o → IsAt o P → Found n p P
found_by n p None P e h = absurd h
found_by n p (Some t) P e h = record { taken = t; there = e; fact = h }

pub found : (n : ℕ) (p : Pool) (P : Taken → Type 0) → IsAt (taken_at n p) P → Found n p P
found n p P h = found_by n p (taken_at n p) P refl h

-- ---- live

none_left : (t : Taken) → is_none t.left ≡ true → t.left ≡ None
none_left t h = by t.left h
  where
    by : (o : Option Reason) → is_none o ≡ true → o ≡ None
    by None h = refl
    by (Some r) h = cc

live_by : (n : ℕ) (p : Pool) (o : Option Taken) → taken_at n p ≡ o → is_live_at o ≡ true → Found n p (λ t. t.left ≡ None)
live_by n p None e h = cc
live_by n p (Some t) e h = record { taken = t; there = e; fact = none_left t h }

pub live_found : (n : ℕ) (p : Pool) → is_live n p ≡ true → Found n p (λ t. t.left ≡ None)
live_found n p h = live_by n p (taken_at n p) refl h

pub found_live : (n : ℕ) (p : Pool) → (t : Taken) × (taken_at n p ≡ Some t) × (t.left ≡ None) → is_live n p ≡ true
found_live n p h = subst (λ o. is_live_at o ≡ true) (sym h.1) (ap is_none h.2)

-- ---- an exact pool

-- what holds of each element of all the lists holds of each one's
each_of : {A B : Type 0} (P : B → Type 0) (f : A → List B) (x : A) (xs : List A) → AllByRecursion P (flat_map f xs) → Contains xs x → (y : B) → In y (f x) → P y
each_of P f x xs h c y i =
    All-contains P (flat_map f xs) y (All-from_recursion P (flat_map f xs) h) (contains y (flat_map f xs) (in-flat_map f y x xs (contained x xs c) i))

pub copies_taken : (p : Pool) (w : World) → IsExact p w → (e : ℕ × Cell) → Contains w.cells e →
    All (λ m. (t : Taken) × (taken_at m.id.number p ≡ Some t) × (t.message ≡ m)) (copies e.1)
copies_taken p w h e c =
    all_by (λ m. (t : Taken) × (taken_at m.id.number p ≡ Some t) × (t.message ≡ m)) (copies e.1)
    (λ m i. let known : IsAsTaken m p = each_of (λ m. IsAsTaken m p) (λ (e : ℕ × Cell). copies e.1) e w.cells h.same c m i in
    let a = found m.id.number p (λ t. (t.left ≡ None) × (t.message ≡ m)) known in
    (a.taken, a.there, a.fact.1))

pub flights_unanswered : (p : Pool) (w : World) → IsExact p w → (e : ℕ × Cell) → Contains w.cells e →
    All (λ (f : FlightRow). (t : Taken) × (taken_at f.message.id.number p ≡ Some t) × (t.answer ≡ None)) e.1.flights
flights_unanswered p w h e c =
    all_by (λ (f : FlightRow). (t : Taken) × (taken_at f.message.id.number p ≡ Some t) × (t.answer ≡ None)) e.1.flights
    (λ f i. let known : IsAt (taken_at f.message.id.number p) (λ t. t.answer ≡ None) =
    each_of (λ (f : FlightRow). IsAt (taken_at f.message.id.number p) (λ t. t.answer ≡ None)) (λ (e : ℕ × Cell). e.1.flights) e w.cells h.flown c f i in
    let a = found f.message.id.number p (λ t. t.answer ≡ None) known in
    (a.taken, a.there, a.fact))

pub answered_stored : (p : Pool) (w : World) → IsExact p w → (n code : ℕ) (t : Taken) → taken_at n p ≡ Some t → t.left ≡ None → t.answer ≡ Some code →
    (e : ℕ × Cell) × Contains w.cells e × (is_stored_or_held n e.1 ≡ true)
answered_stored p w h n code t e l a =
    let known : IsAnswered t = record { live = l; answered = ap is_some a } in
    let found = among (λ (e : ℕ × Cell). is_stored_or_held n e.1) w.cells (h.answered n (subst (λ o. IsAt o IsAnswered) (sym e) known)) in
    (found.one, contains found.one w.cells found.member, found.passes)

-- ---- histories

pub any_legal : (by : ℕ) (w : World) (xs : List Step) → IsLegal step w (history step by w xs)
any_legal by w [] = tt
any_legal by w (x ∷ xs) = (refl, any_legal by (step w x).0 xs)

pub one_more : (w : World) (es : List (Entry Step Reply)) (e : Entry Step Reply) → world_after step w (es ++ e ∷ []) ≡ (step (world_after step w es) e.step).0
one_more w [] e = refl
one_more w (x ∷ es) e = one_more (step w x.step).0 es e
