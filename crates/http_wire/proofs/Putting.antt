-- Pieces that were put one after the other.
use Rattle.std.proofs.Common.{◌≡◌, ℕ, List, ◌++◌, append_assoc}

pub regroup_five : (t a b c d e : List ℕ) → ((((t ++ a) ++ b) ++ c) ++ d) ++ e ≡ t ++ (a ++ ((b ++ (c ++ d)) ++ e))
regroup_five t a b c d e = simp append_assoc

pub regroup_seven : (t a b c d e f k : List ℕ) → ((((((t ++ a) ++ b) ++ c) ++ d) ++ e) ++ f) ++ k ≡ t ++ (a ++ (b ++ (c ++ (d ++ (e ++ (f ++ k))))))
regroup_seven t a b c d e f k = simp append_assoc
