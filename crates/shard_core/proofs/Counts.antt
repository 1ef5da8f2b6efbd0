-- The numbers of a report, as one cell more is counted.
use Rattle.std.proofs.Common.{◌≡◌, ℕ, ◌+◌, Bool, true, false, cond, List, [], ◌∷◌, ◌++◌, length, ap, sym, ◌∙◌, arith}
use Rattle.std.specs.Prelude.{sum_by, count_by, is_some}
use Rattle.std.specs.Map.{values_of}
use Rattle.std.proofs.lemmas.List.Sums.{sum_by_push}
use Rattle.push_model.specs.Cells.{Cell}
use Rattle.push_model.specs.Covering.{stored_in, held_in, unsent_in, orphans_in, waiting_in}
use Rattle.push_model.specs.Tallies.{capped}
use Rattle.push_model.specs.Worlds.{World}
use Rattle.push_model.specs.ShardSteps.{counts}
use Rattle.shard_core.specs.Counting.{counted, counts_of}
use Rattle.shard_core.proofs.Values.{sum_by-values, count_by-values}

capped-add : (a b : ℕ) → capped (capped a + capped b) ≡ capped (a + b)
capped-add a b = omega arith

pub sum-push : {X : Type 0} (f : X → ℕ) (xs : List X) (x : X) → capped (sum_by f (xs ++ x ∷ [])) ≡ capped (capped (sum_by f xs) + capped (f x))
sum-push f xs x = ap capped (sum_by_push f xs x) ∙ sym (capped-add (sum_by f xs) (f x))

users-by : (b : Bool) (n : ℕ) → capped (n + cond b 1 0) ≡ cond b (capped (capped n + 1)) (capped n)
users-by true n = omega arith
users-by false n = omega arith

users-push : (xs : List Cell) (c : Cell) → capped (count_by (λ c. is_some c.user) (xs ++ c ∷ [])) ≡ cond (is_some c.user) (capped (capped (count_by (λ c. is_some c.user) xs) + 1)) (capped (count_by (λ c. is_some c.user) xs))
users-push xs c = ap capped (sum_by_push (λ d. cond (is_some d.user) 1 0) xs c) ∙ users-by (is_some c.user) (count_by (λ d. is_some d.user) xs)

-- one cell more
pub counts_of-push : (xs : List Cell) (c : Cell) → counts_of (xs ++ c ∷ []) ≡ counted (counts_of xs) c
counts_of-push xs c = λ i.
    record {
      users = users-push xs c i;
      stored = sum-push stored_in xs c i;
      held = sum-push held_in xs c i;
      flights = sum-push (λ d. length d.flights) xs c i;
      unsent = sum-push unsent_in xs c i;
      orphans = sum-push orphans_in xs c i;
      waiting = sum-push waiting_in xs c i;
    }

all-by : (w : World) → counts_of (values_of w.cells) ≡ counts w
all-by w = λ i.
    record {
      users = capped (count_by-values (λ c. is_some c.user) w.cells i);
      stored = capped (sum_by-values stored_in w.cells i);
      held = capped (sum_by-values held_in w.cells i);
      flights = capped (sum_by-values (λ c. length c.flights) w.cells i);
      unsent = capped (sum_by-values unsent_in w.cells i);
      orphans = capped (sum_by-values orphans_in w.cells i);
      waiting = capped (sum_by-values waiting_in w.cells i);
    }

-- the numbers of all cells are those of the world
pub counts_of-all : (w : World) (es : List (ℕ × Cell)) → es ≡ w.cells → counts_of (values_of es) ≡ counts w
counts_of-all w es e = ap (λ (cs : List (ℕ × Cell)). counts_of (values_of cs)) e ∙ all-by w
