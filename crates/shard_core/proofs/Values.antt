-- Searches and sums over the values of a map's entries.
use Rattle.std.proofs.Common.{◌≡◌, ℕ, ◌+◌, Bool, true, false, cond, Bor, List, [], ◌∷◌, refl, ap, sym, ◌∙◌}
use Rattle.std.specs.Prelude.{Option, Some, None, is_some, Result, Ok, Err, IfOk, OnErr, find, fold, sum_by, count_by, ◌||◌}
use Rattle.std.specs.Option.{option_copied, option_map}
use Rattle.std.specs.List.{list_any}
use Rattle.std.specs.Map.{set_value, remove_entry, values_of}

fold-values : {X : Type 0} (f : X → ℕ) (z : ℕ) (es : List (ℕ × X)) → fold (λ a x. a + f x) z (values_of es) ≡ fold (λ a e. a + f e.1) z es
fold-values f z [] = refl
fold-values f z (e ∷ es) = fold-values f (z + f e.1) es

pub sum_by-values : {X : Type 0} (f : X → ℕ) (es : List (ℕ × X)) → sum_by f (values_of es) ≡ sum_by (λ e. f e.1) es
sum_by-values f es = fold-values f 0 es

pub count_by-values : {X : Type 0} (p : X → Bool) (es : List (ℕ × X)) → count_by p (values_of es) ≡ count_by (λ e. p e.1) es
count_by-values p es = fold-values (λ x. cond (p x) 1 0) 0 es

rem_by : {X : Type 0} (t : ℕ → Bool) (b : Bool) (e : ℕ × X) (es fs : List (ℕ × X)) (c : X) → t e.0 ≡ b → remove_entry t fs ≡ remove_entry t es →
    remove_entry t (cond b ((e.0, c) ∷ es) (e ∷ fs)) ≡ cond b es (e ∷ remove_entry t es)
rem_by t true e es fs c h i = ap (λ b. cond b es ((e.0, c) ∷ remove_entry t es)) h
rem_by t false e es fs c h i = ap (λ b. cond b fs (e ∷ remove_entry t fs)) h ∙ ap (λ xs. e ∷ xs) i

-- an entry that is removed after it was written
pub remove_entry-set_value : {X : Type 0} (t : ℕ → Bool) (es : List (ℕ × X)) (c : X) → remove_entry t (set_value t es c) ≡ remove_entry t es
remove_entry-set_value t [] c = refl
remove_entry-set_value t (e ∷ es) c = rem_by t (t e.0) e es (set_value t es c) c refl (remove_entry-set_value t es c)

-- what holds at all holds at an `Err`
pub on_err : {T E P : Type 0} (r : Result T E) → P → OnErr r P
on_err (Ok x) p = tt
on_err (Err e) p = p

-- what holds at an `Err` says there what follows of it
pub err_map : {T E P Q : Type 0} (r : Result T E) → (P → Q) → OnErr r P → OnErr r Q
err_map (Ok x) f p = tt
err_map (Err e) f p = f p

-- and what holds at an `Ok`
pub ok_map : {T E : Type 0} {P Q : T → Type 0} (r : Result T E) → ((x : T) → P x → Q x) → IfOk r P → IfOk r Q
ok_map (Ok x) f p = f x p
ok_map (Err e) f p = tt

-- a look-up that gives nothing
pub copied_none : {X : Type 0} (r : Option (Bor X)) → is_some r ≡ false → option_copied r ≡ None
copied_none None e = refl
copied_none (Some x) e = absurd (cc e)

pub copied_there : {X : Type 0} (r : Option (Bor X)) (o : Option X) → option_copied r ≡ o → is_some r ≡ true → is_some o ≡ true
copied_there None o e s = absurd (cc s)
copied_there (Some x) o e s = ap is_some (sym e)

-- and one that gives something
pub copied_some : {X : Type 0} (r : Option (Bor X)) (o : Option (ℕ × X)) → option_copied r ≡ option_map (λ e. e.1) o → is_some r ≡ is_some o
copied_some None None e = refl
copied_some None (Some y) e = absurd (cc e)
copied_some (Some x) None e = absurd (cc e)
copied_some (Some x) (Some y) e = refl

any_by : {X : Type 0} (b : Bool) (x : X) (l : Bool) (o : Option X) → l ≡ is_some o → (b || l) ≡ is_some (cond b (Some x) o)
any_by true x l o e = refl
any_by false x l o e = e

-- some element passes where one is found
pub any_found : {X : Type 0} (p : X → Bool) (xs : List X) → list_any p xs ≡ is_some (find p xs)
any_found p [] = refl
any_found p (x ∷ xs) = any_by (p x) x (list_any p xs) (find p xs) (any_found p xs)
