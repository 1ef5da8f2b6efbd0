-- A history with one more entry, of any object.
use Rattle.std.proofs.Common.{◌≡◌, ℕ, Bool, true, List, [], ◌∷◌, ◌++◌, refl, sym, ap, ◌∙◌}
use Rattle.push_model.specs.declared.entry.Entry.{Entry}
use Rattle.push_model.specs.Histories.{entry, world_after, IsLegal, AllProper}

module _ {W S R : Type 0} (run : W → S → W × R) where
  pub after_last : (w : W) (es : List (Entry S R)) (e : Entry S R) → world_after run w (es ++ e ∷ []) ≡ (run (world_after run w es) e.step).0
  after_last w [] e = refl
  after_last w (x ∷ xs) e = after_last (run w x.step).0 xs e

  pub legal_last : (w : W) (es : List (Entry S R)) (e : Entry S R) → IsLegal run w es → e.reply ≡ (run (world_after run w es) e.step).1 → IsLegal run w (es ++ e ∷ [])
  legal_last w [] e l r = (r, tt)
  legal_last w (x ∷ xs) e l r = (l.0, legal_last (run w x.step).0 xs e l.1 r)

  -- the entry of a step that was made where the history leads
  pub after_step : (w v next : W) (es : List (Entry S R)) (by : ℕ) (x : S) (r : R) → world_after run w es ≡ v → run v x ≡ (next, r) →
      world_after run w (es ++ entry by x r ∷ []) ≡ next
  after_step w v next es by x r at did = after_last w es (entry by x r) ∙ (ap (λ (z : W). (run z x).0) at ∙ ap (λ (p : W × R). p.0) did)

  pub legal_step : (w v next : W) (es : List (Entry S R)) (by : ℕ) (x : S) (r : R) → IsLegal run w es → world_after run w es ≡ v → run v x ≡ (next, r) →
      IsLegal run w (es ++ entry by x r ∷ [])
  legal_step w v next es by x r l at did =
      legal_last w es (entry by x r) l (sym (ap (λ (z : W). (run z x).1) at ∙ ap (λ (p : W × R). p.1) did))

module _ {W S R : Type 0} (run : W → S → W × R) where
  -- a history in two parts
  pub after_append : (w : W) (xs ys : List (Entry S R)) → world_after run w (xs ++ ys) ≡ world_after run (world_after run w xs) ys
  after_append w [] ys = refl
  after_append w (x ∷ xs) ys = after_append (run w x.step).0 xs ys

  pub legal_front : (w : W) (xs ys : List (Entry S R)) → IsLegal run w (xs ++ ys) → IsLegal run w xs
  legal_front w [] ys l = tt
  legal_front w (x ∷ xs) ys l = (l.0, legal_front (run w x.step).0 xs ys l.1)

  pub legal_back : (w : W) (xs ys : List (Entry S R)) → IsLegal run w (xs ++ ys) → IsLegal run (world_after run w xs) ys
  legal_back w [] ys l = l
  legal_back w (x ∷ xs) ys l = legal_back (run w x.step).0 xs ys l.1

module _ {S R : Type 0} (proper : ℕ → S → Bool) where
  pub proper_front : (xs ys : List (Entry S R)) → AllProper proper (xs ++ ys) → AllProper proper xs
  proper_front [] ys p = tt
  proper_front (x ∷ xs) ys p = (p.0, proper_front xs ys p.1)

  pub proper_back : (xs ys : List (Entry S R)) → AllProper proper (xs ++ ys) → AllProper proper ys
  proper_back [] ys p = p
  proper_back (x ∷ xs) ys p = proper_back xs ys p.1

pub proper_last : {S R : Type 0} → (proper : ℕ → S → Bool) (es : List (Entry S R)) (e : Entry S R) → AllProper proper es → proper e.by e.step ≡ true →
    AllProper proper (es ++ e ∷ [])
proper_last proper [] e h p = (p, tt)
proper_last proper (x ∷ xs) e h p = (h.0, proper_last proper xs e h.1 p)
