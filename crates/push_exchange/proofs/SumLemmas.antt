-- A sum with one more.
use Rattle.std.proofs.Common.{◌≡◌, ℕ, ◌+◌, ◌<◌, List, [], ◌∷◌, ◌++◌, length, map, take, get_or, sym, ap, ◌∙◌, arith}
use Rattle.std.specs.Prelude.{sum_by}
use Rattle.std.proofs.lemmas.List.{map-append, take_more}
use Rattle.std.proofs.lemmas.List.Sums.{sum_by_push}
use Rattle.push_model.specs.declared.counts.Counts.{Counts}
use Rattle.push_model.specs.declared.counts.Tally.{Tally}
use Rattle.push_model.specs.Tallies.{capped}
use Rattle.push_exchange.specs.Sums.{all_counts, all_tallies, counts_with, tally_with}

capped_more : (s x : ℕ) → capped (capped s + x) ≡ capped (s + x)
capped_more s x = omega arith

one_more : {A : Type 0} → (f : A → ℕ) (xs : List A) (x : A) → capped (capped (sum_by f xs) + f x) ≡ capped (sum_by f (xs ++ x ∷ []))
one_more f xs x = capped_more (sum_by f xs) (f x) ∙ ap capped (sym (sum_by_push f xs x))

counts_push : (cs : List Counts) (c : Counts) → counts_with (all_counts cs) c ≡ all_counts (cs ++ c ∷ [])
counts_push cs c = λ i. record {
  users = one_more (λ n. n.users) cs c i;
  stored = one_more (λ n. n.stored) cs c i;
  held = one_more (λ n. n.held) cs c i;
  flights = one_more (λ n. n.flights) cs c i;
  unsent = one_more (λ n. n.unsent) cs c i;
  orphans = one_more (λ n. n.orphans) cs c i;
  waiting = one_more (λ n. n.waiting) cs c i;
}

tally_push : (ts : List Tally) (t : Tally) → tally_with (all_tallies ts) t ≡ all_tallies (ts ++ t ∷ [])
tally_push ts t = λ i. record {
  begun = one_more (λ n. n.begun) ts t i;
  ok = one_more (λ n. n.ok) ts t i;
  refused = one_more (λ n. n.refused) ts t i;
  stored = one_more (λ n. n.stored) ts t i;
  shown = one_more (λ n. n.shown) ts t i;
  acked = one_more (λ n. n.acked) ts t i;
  saved = one_more (λ n. n.saved) ts t i;
  left = one_more (λ n. n.left) ts t i;
  lost = one_more (λ n. n.lost) ts t i;
}

module _ {W : Type 0} (ws : List W) (k : ℕ) (w : W) (low : k < length ws) (e : w ≡ get_or ws k w) where
  taken : {A : Type 0} → (f : W → A) → map f (take (k + 1) ws) ≡ map f (take k ws) ++ f w ∷ []
  taken f = ap (map f) (take_more ws k w low) ∙ (map-append f (take k ws) (get_or ws k w ∷ []) ∙ ap (λ (v : W). map f (take k ws) ++ f v ∷ []) (sym e))

  pub counts_step : (f : W → Counts) → counts_with (all_counts (map f (take k ws))) (f w) ≡ all_counts (map f (take (k + 1) ws))
  counts_step f = counts_push (map f (take k ws)) (f w) ∙ ap all_counts (sym (taken f))

  pub tally_step : (f : W → Tally) → tally_with (all_tallies (map f (take k ws))) (f w) ≡ all_tallies (map f (take (k + 1) ws))
  tally_step f = tally_push (map f (take k ws)) (f w) ∙ ap all_tallies (sym (taken f))
