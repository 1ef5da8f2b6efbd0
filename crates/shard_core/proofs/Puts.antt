-- A step on the cell of one user, and what it makes of the world.
use Rattle.std.proofs.Common.{◌≡◌, ℕ, Bool, true, false, cond, List, refl, ◌∙◌, ap, sym, subst, arith}
use Rattle.std.specs.Prelude.{Some, None, Result, Ok, Err, OnOk, if◌then◌else◌}
use Rattle.std.specs.Result.{is_err}
use Rattle.std.specs.Map.{lookup, set_value, remove_entry}
use Rattle.std.specs.Ordering.{nat_cmp}
use Rattle.std.specs.BTreeMap.{is_at, insert_entry}
use Rattle.std.proofs.lemmas.Bool.Decides.{nat_tests}
use Rattle.push_model.specs.declared.ids.Uaid.{Uaid}
use Rattle.push_model.specs.declared.reply.Reply.{Reply}
use Rattle.push_model.specs.Cells.{Cell, empty_cell, is_there}
use Rattle.push_model.specs.Outcomes.{Outcome}
use Rattle.push_model.specs.Worlds.{World, cell_at, found_or_empty, put_beside, with_cell, on_cell, settled}
use Rattle.push_model.specs.Steps.{Action, OnUser, OnFlight, OnShard, Does, Costs}
use Rattle.push_model.proofs.Entries.{rem_same}
use Rattle.shard_core.specs.Made.{Puts, StepsTo, DoesAt, CostsAt}
use Rattle.shard_core.proofs.Values.{remove_entry-set_value}

-- the cell is found there, or none is and it is empty
pub cell_found : (es : List (ℕ × Cell)) (u : Uaid) (c : Cell) → lookup (is_at (nat_cmp u.0)) es ≡ Some c → cell_at es u ≡ c
cell_found es u c e = ap (λ o. found_or_empty o u) e

pub cell_new : (es : List (ℕ × Cell)) (u : Uaid) → lookup (is_at (nat_cmp u.0)) es ≡ None → cell_at es u ≡ empty_cell u
cell_new es u e = ap (λ o. found_or_empty o u) e

if_true : {A : Type 0} (b : Bool) (x y : A) → b ≡ true → (if b then x else y) ≡ x
if_true true x y e = refl
if_true false x y e = absurd (cc e)

if_false : {A : Type 0} (b : Bool) (x y : A) → b ≡ false → (if b then x else y) ≡ y
if_false true x y e = absurd (cc e)
if_false false x y e = refl

-- the cells with v, by what was there
pub with_set : (es : List (ℕ × Cell)) (u : Uaid) (c v : Cell) → lookup (is_at (nat_cmp u.0)) es ≡ Some c → is_there v ≡ true →
    with_cell u v es ≡ set_value (is_at (nat_cmp u.0)) es v
with_set es u c v e t = if_true (is_there v) _ _ t ∙ ap (λ o. put_beside o u v es) e

pub with_new : (es : List (ℕ × Cell)) (u : Uaid) (v : Cell) → lookup (is_at (nat_cmp u.0)) es ≡ None → is_there v ≡ true →
    with_cell u v es ≡ insert_entry nat_cmp es u.0 v
with_new es u v e t = if_true (is_there v) _ _ t ∙ ap (λ o. put_beside o u v es) e

pub with_gone : (es : List (ℕ × Cell)) (u : Uaid) (v : Cell) → is_there v ≡ false → with_cell u v es ≡ remove_entry (is_at (nat_cmp u.0)) es
with_gone es u v t = if_false (is_there v) _ _ t

pub with_none : (es : List (ℕ × Cell)) (u : Uaid) (v : Cell) → lookup (is_at (nat_cmp u.0)) es ≡ None → is_there v ≡ false → with_cell u v es ≡ es
with_none es u v e t = with_gone es u v t ∙ rem_same u.0 es e

-- ---- what a step on that cell makes of the cells

at_true : (n k : ℕ) → is_at (nat_cmp n) k ≡ true → k ≡ n
at_true n k e = grind (arith, nat_tests)

twice : {A : Type 0} (b : Bool) (x y z : A) → cond b x (cond b y z) ≡ cond b x z
twice true x y z = refl
twice false x y z = refl

-- in the place of c
pub puts_set : (u : Uaid) (c v : Cell) (es fs : List (ℕ × Cell)) → lookup (is_at (nat_cmp u.0)) es ≡ Some c → is_there v ≡ true →
    fs ≡ set_value (is_at (nat_cmp u.0)) es v →
    ((q : ℕ) → lookup (is_at (nat_cmp q)) fs ≡ cond (is_at (nat_cmp u.0) q) (Some v) (lookup (is_at (nat_cmp q)) es)) → Puts u v es fs
puts_set u c v es fs e t s h =
    record {
      entries = s ∙ sym (with_set es u c v e t);
      updates = λ q. h q ∙ ap (λ o. cond (is_at (nat_cmp u.0) q) o (lookup (is_at (nat_cmp q)) es)) (sym (if_true (is_there v) (Some v) None t));
    }

-- c goes
pub puts_gone : (u : Uaid) (v : Cell) (es ms fs : List (ℕ × Cell)) → is_there v ≡ false →
    ms ≡ set_value (is_at (nat_cmp u.0)) es v →
    ((q : ℕ) → lookup (is_at (nat_cmp q)) ms ≡ cond (is_at (nat_cmp u.0) q) (Some v) (lookup (is_at (nat_cmp q)) es)) →
    fs ≡ remove_entry (is_at (nat_cmp u.0)) ms →
    ((q : ℕ) → lookup (is_at (nat_cmp q)) fs ≡ cond (is_at (nat_cmp u.0) q) None (lookup (is_at (nat_cmp q)) ms)) → Puts u v es fs
puts_gone u v es ms fs t s h r k =
    record {
      entries = r ∙ ap (remove_entry (is_at (nat_cmp u.0))) s ∙ remove_entry-set_value (is_at (nat_cmp u.0)) es v ∙ sym (with_gone es u v t);
      updates = λ q.
          k q
          ∙ ap (λ o. cond (is_at (nat_cmp u.0) q) None o) (h q)
          ∙ twice (is_at (nat_cmp u.0) q) None (Some v) (lookup (is_at (nat_cmp q)) es)
          ∙ ap (λ o. cond (is_at (nat_cmp u.0) q) o (lookup (is_at (nat_cmp q)) es)) (sym (if_false (is_there v) (Some v) None t));
    }

-- a cell comes
pub puts_new : (u : Uaid) (v : Cell) (es fs : List (ℕ × Cell)) → lookup (is_at (nat_cmp u.0)) es ≡ None → is_there v ≡ true →
    fs ≡ insert_entry nat_cmp es u.0 v →
    ((q : ℕ) → lookup (is_at (nat_cmp q)) fs ≡ cond (is_at (nat_cmp u.0) q) (Some v) (lookup (is_at (nat_cmp q)) es)) → Puts u v es fs
puts_new u v es fs e t s h =
    record {
      entries = s ∙ sym (with_new es u v e t);
      updates = λ q. h q ∙ ap (λ o. cond (is_at (nat_cmp u.0) q) o (lookup (is_at (nat_cmp q)) es)) (sym (if_true (is_there v) (Some v) None t));
    }

stays_absent : (n q : ℕ) (es : List (ℕ × Cell)) (b : Bool) → is_at (nat_cmp n) q ≡ b → lookup (is_at (nat_cmp n)) es ≡ None →
    lookup (is_at (nat_cmp q)) es ≡ cond b None (lookup (is_at (nat_cmp q)) es)
stays_absent n q es true e h = subst (λ k. lookup (is_at (nat_cmp k)) es ≡ None) (sym (at_true n q e)) h
stays_absent n q es false e h = refl

-- none was there, and none comes
pub puts_none : (u : Uaid) (v : Cell) (es fs : List (ℕ × Cell)) → lookup (is_at (nat_cmp u.0)) es ≡ None → is_there v ≡ false → fs ≡ es → Puts u v es fs
puts_none u v es fs e t s =
    record {
      entries = s ∙ sym (with_none es u v e t);
      updates = λ q.
          ap (lookup (is_at (nat_cmp q))) s
          ∙ stays_absent u.0 q es (is_at (nat_cmp u.0) q) refl e
          ∙ ap (λ o. cond (is_at (nat_cmp u.0) q) o (lookup (is_at (nat_cmp q)) es)) (sym (if_false (is_there v) (Some v) None t));
    }

-- ---- and of the world

does_by : (w n : World) (u : Uaid) (f : Cell → Outcome) (v : Cell) (r : Reply) → f (cell_at w.cells u) ≡ record { cell = v; reply = r } →
    n ≡ record w { cells = with_cell u v w.cells } → on_cell w u f ≡ (n, r)
does_by w n u f v r d s = ap (settled w u) d ∙ ap (λ z. (z, r)) (sym s)

does_at : (a : Action) (w n : World) (u : Uaid) (v : Cell) (r : Reply) → Does a (cell_at w.cells u) (record { cell = v; reply = r }) →
    n ≡ record w { cells = with_cell u v w.cells } → DoesAt a u w n r
does_at (OnUser x f) w n u v r d s = does_by w n u f v r d s
does_at (OnFlight o f) w n u v r d s = does_by w n u f v r d s
does_at (OnShard f) w n u v r d s = d

-- what it does to the cells it makes of the world
pub steps_at : (a : Action) (w n : World) (u : Uaid) (fs : List (ℕ × Cell)) (r : Reply) → StepsTo a u w.cells fs r → n ≡ record w { cells = fs } → DoesAt a u w n r
steps_at a w n u fs r h s = does_at a w n u h.cell r h.does (s ∙ ap (λ (es : List (ℕ × Cell)). record w { cells = es }) h.puts.entries)

-- and what it costs there
pub costs_at : (a : Action) (w : World) (u : Uaid) → Costs a (cell_at w.cells u) → CostsAt a u w
costs_at (OnUser x f) w u d = d
costs_at (OnFlight o f) w u d = d
costs_at (OnShard f) w u d = d

-- what is said at an `Ok` holds where there is no error
pub at_ok : {T E P : Type 0} (r : Result T E) → is_err r ≡ false → OnOk r P → P
at_ok (Ok x) e p = p
at_ok (Err x) e p = absurd (cc e)
