-- Who has which ticket, and where the object is.
use Rattle.std.proofs.Common.{◌≡◌, ◌≢◌, ℕ, zero, suc, ◌<◌, ◌==◌, ◌||◌, Bool, true, false, List, [], ◌∷◌, length, set, refl, sym, ap, ◌∙◌, subst, ⊎_elim, inl, inr, arith, eq-eqb, Option}
use mathlib.Core.Option.{some, some-injective, some-ne-none}
use mathlib.Core.Option as maybe
use lib.ListN.{get_elem?}
use Rattle.atomic_table.specs.Table.{State}
use Rattle.atomic_table.proofs.Lists.{set_else}
use Rattle.push_model.specs.declared.entry.Entry.{Entry}
use Rattle.push_model.specs.Histories.{AllProper}
use Rattle.turn_board.specs.declared.view.Home.{Home}
use Rattle.turn_board.specs.declared.view.Place.{Place}
use Rattle.turn_board.specs.declared.view.Place.TheVariants.{Free, Waits, Serves}
use Rattle.turn_board.specs.declared.view.View.{View}
use Rattle.turn_board.specs.Numbers.{has}
use Rattle.turn_board.specs.Views.{tickets, ticket_of}
use Rattle.turn_board.specs.Rule.{IsHomed, AllSigned, IsBoard}
use Rattle.std.proofs.lemmas.Bool.{eqb-true}
use Rattle.turn_board.proofs.Rows.{none_true, each_set}

pub one_has : (x k : ℕ) → has (x ∷ []) k ≡ true → x ≡ k
one_has x k e = pick (x == k) (eqb-true x k) e
  where
    pick : (b : Bool) → (b ≡ true → x ≡ k) → (b || false) ≡ true → x ≡ k
    pick true f e = f refl
    pick false f e = absurd (none_true e)

pub has_self : (x : ℕ) → has (x ∷ []) x ≡ true
has_self x = ap (λ (b : Bool). b || false) (eq-eqb x x refl)

pub serves_not_free : (k : ℕ) → Free ≡ Serves k → ⊥
serves_not_free k e = cc

pub serves_not_waits : (k x : ℕ) → Waits x ≡ Serves k → ⊥
serves_not_waits k x e = cc

module _ {V : Type 0} where
  pub same_seat : (vs : List V) (id j : ℕ) (v u : V) → get_elem? vs id ≡ some v → get_elem? vs j ≡ some u → j ≡ id → u ≡ v
  same_seat vs id j v u at there e = some-injective u v (sym there ∙ ap (λ (i : ℕ). get_elem? vs i) e ∙ at)

  pub at_lt : (vs : List V) (i : ℕ) (v : V) → get_elem? vs i ≡ some v → i < length vs
  at_lt [] i v e = absurd (some-ne-none v (sym e))
  at_lt (x ∷ xs) zero v e = omega arith
  at_lt (x ∷ xs) (suc i) v e = let h = at_lt xs i v e in omega arith

module _ {W S R : Type 0} (run : W → S → W × R) (proper : ℕ → S → Bool) (origin : W) where
  abbrev V : Type 0
  V = View W S R

  abbrev St : Type 0
  St = State (Option (Home W)) V

  abbrev Es : Type 0
  Es = List (Entry S R)

  abbrev Rule : St → Type 0
  Rule = IsBoard run proper origin

  -- a seat that has not the turn changes its view, and has not the turn then
  pub homed_else : (h : Es) (homes : List (maybe.Option (Option (Home W)))) (vs : List V) (id : ℕ) (v w : V) → get_elem? vs id ≡ some v → ((k : ℕ) → v.place ≡ Serves k → ⊥) → IsHomed run origin h homes vs → IsHomed run origin h homes (set vs id w)
  homed_else h homes vs id v w at not homed = ⊎_elim inl
      (λ (t : (j k : ℕ) × (u : V) × (get_elem? vs j ≡ some u) × (u.place ≡ Serves k)).
      let other : t.0 ≢ id = λ e. not t.1 (ap (λ (x : V). x.place) (sym (same_seat vs id t.0 v t.2 at t.3 e)) ∙ t.4) in
      inr (t.0, t.1, t.2, set_else vs id t.0 w other ∙ t.3, t.4))
      homed

  pub out_else : (s : St) (r : Rule s) (id : ℕ) (w : V) → ((k : ℕ) → w.place ≡ Serves k → ⊥) → (j k : ℕ) (v : V) → get_elem? (set s.views id w) j ≡ some v → v.place ≡ Serves k → s.homes ≡ maybe.none ∷ []
  out_else s r id w not j k v e = each_set (λ (v : V). v.place ≡ Serves k → s.homes ≡ maybe.none ∷ []) s.views id w (λ i u _ at. r.out i k u at) (λ serves. absurd (not k serves)) j v e

  -- no two seats have the turn
  pub one_serves : (s : St) (r : Rule s) (id k : ℕ) (v : V) → get_elem? s.views id ≡ some v → v.place ≡ Serves k → (j x : ℕ) (u : V) → get_elem? s.views j ≡ some u → has (ticket_of u) k ≡ true → j ≡ id
  one_serves s r id k v at is j x u there has_it = r.tickets_apart j id u v k there at has_it (subst (λ (st : Place). has (tickets st) k ≡ true) (sym is) (has_self k))

  pub proper_of : (seats : ℕ) (es : Es) → AllSigned proper seats es → AllProper proper es
  proper_of seats [] h = tt
  proper_of seats (e ∷ es) h = (h.0, proper_of seats es h.2)
