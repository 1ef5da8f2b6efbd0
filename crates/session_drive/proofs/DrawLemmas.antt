-- Bytes that a draw gave, one call after the other.
use Rattle.std.proofs.Common.{◌≡◌, ℕ, List, [], ◌++◌, refl, ap, sym, ◌∙◌, append_assoc, subst, Option, Some, None}
use Rattle.std.proofs.lemmas.List.{append-nil}
use Rattle.push_outside.specs.Draws.{GivesMore}

pub gives_none : (before : Option (List ℕ)) → GivesMore before before []
gives_none None = tt
gives_none (Some xs) = (xs, refl, sym (append-nil xs))

pub gives_then : (a b c : Option (List ℕ)) (xs ys : List ℕ) → GivesMore a b xs → GivesMore b c ys → GivesMore a c (xs ++ ys)
gives_then a b None xs ys f g = tt
gives_then a b (Some zs) xs ys f g =
    let h : GivesMore a (Some g.0) xs = subst (λ (o : Option (List ℕ)). GivesMore a o xs) g.1 f in
    (h.0, h.1, g.2 ∙ (ap (λ l. l ++ ys) h.2 ∙ append_assoc h.0 xs ys))
