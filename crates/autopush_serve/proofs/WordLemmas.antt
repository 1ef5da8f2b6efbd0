-- What a first word says of all words.
use Rattle.std.proofs.Common.{◌≡◌, ℕ, ◌≤◌, List, [], ◌∷◌, length, get_or, map, subst, arith}
use Rattle.std.specs.Prelude.{codes}
use Rattle.autopush_serve.specs.Endings.{BeginsServe}

pub first_word : {X : Type 0} (view : X → List ℕ) (xs : List X) (n : X) → 1 ≤ length xs → n ≡ get_or xs 0 n → view n ≡ codes "serve" → BeginsServe (map view xs)
first_word view [] n some is e = absurd (omega arith)
first_word view (x ∷ xs) n some is e = let f : n ≡ x = is in subst (λ (z : _). view z ≡ codes "serve") f e
