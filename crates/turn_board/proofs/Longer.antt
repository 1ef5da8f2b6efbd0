-- A history with one more entry.
use Rattle.std.proofs.Common.{◌≡◌, ℕ, List, [], ◌∷◌, ◌++◌, refl, sym, ap, ◌∙◌}
use Rattle.push_model.specs.declared.entry.Entry.{Entry}
use Rattle.std.proofs.Common.{Bool, true}
use Rattle.push_model.specs.Histories.{entry, world_after, IsLegal, AllProper}

module _ {W S R : Type 0} (run : W → S → W × R) where
  pub world_after-snoc : (w : W) (es : List (Entry S R)) (e : Entry S R) → world_after run w (es ++ e ∷ []) ≡ (run (world_after run w es) e.step).0
  world_after-snoc w [] e = refl
  world_after-snoc w (x ∷ xs) e = world_after-snoc (run w x.step).0 xs e

  pub IsLegal-snoc : (w : W) (es : List (Entry S R)) (e : Entry S R) → IsLegal run w es → e.reply ≡ (run (world_after run w es) e.step).1 → IsLegal run w (es ++ e ∷ [])
  IsLegal-snoc w [] e legal reply = (reply, tt)
  IsLegal-snoc w (x ∷ xs) e legal reply = (legal.0, IsLegal-snoc (run w x.step).0 xs e legal.1 reply)

  -- the entry that an object made, which stood where the history leaves it
  pub world_after-step : (w now next : W) (es : List (Entry S R)) (by : ℕ) (s : S) (r : R) → world_after run w es ≡ now → run now s ≡ (next, r) → world_after run w (es ++ entry by s r ∷ []) ≡ next
  world_after-step w now next es by s r at did = world_after-snoc w es (entry by s r) ∙ ap (λ (v : W). (run v s).0) at ∙ ap (λ (p : W × R). p.0) did

  pub IsLegal-step : (w now next : W) (es : List (Entry S R)) (by : ℕ) (s : S) (r : R) → IsLegal run w es → world_after run w es ≡ now → run now s ≡ (next, r) → IsLegal run w (es ++ entry by s r ∷ [])
  IsLegal-step w now next es by s r legal at did = IsLegal-snoc w es (entry by s r) legal (sym (ap (λ (v : W). (run v s).1) at ∙ ap (λ (p : W × R). p.1) did))

  -- a beginning of a legal history is one
  pub IsLegal-front : (w : W) (xs ys : List (Entry S R)) → IsLegal run w (xs ++ ys) → IsLegal run w xs
  IsLegal-front w [] ys h = tt
  IsLegal-front w (x ∷ xs) ys h = (h.0, IsLegal-front (run w x.step).0 xs ys h.1)

pub AllProper-front : {S R : Type 0} → (proper : ℕ → S → Bool) (xs ys : List (Entry S R)) → AllProper proper (xs ++ ys) → AllProper proper xs
AllProper-front proper [] ys h = tt
AllProper-front proper (x ∷ xs) ys h = (h.0, AllProper-front proper xs ys h.1)

pub AllProper-snoc : {S R : Type 0} → (proper : ℕ → S → Bool) (es : List (Entry S R)) (e : Entry S R) → AllProper proper es → proper e.by e.step ≡ true → AllProper proper (es ++ e ∷ [])
AllProper-snoc proper [] e h p = (p, tt)
AllProper-snoc proper (x ∷ xs) e h p = (h.0, AllProper-snoc proper xs e h.1 p)
