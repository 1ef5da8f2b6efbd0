-- The line of a tally, written count by count.
use Rattle.std.proofs.Common.{◌≡◌, ℕ, List, ◌++◌, append_assoc}
use Rattle.std.specs.Prelude.{codes, decimal}
use Rattle.push_model.specs.declared.counts.Tally.{Tally}
use Rattle.schedule_text.specs.Replies.{lf}
use Rattle.schedule_text.specs.Words.{word}
use Rattle.node_control.specs.Tallies.{tally_line}

regroup : (a b c d e f g h i j k l m n o p q r s z : List ℕ) →
    (a ++ (b ++ c) ++ (d ++ e) ++ (f ++ g) ++ (h ++ i) ++ (j ++ k) ++ (l ++ m) ++ (n ++ o) ++ (p ++ q) ++ (r ++ s)) ++ z
    ≡ a ++ (b ++ (c ++ (d ++ (e ++ (f ++ (g ++ (h ++ (i ++ (j ++ (k ++ (l ++ (m ++ (n ++ (o ++ (p ++ (q ++ (r ++ (s ++ z))))))))))))))))))
regroup a b c d e f g h i j k l m n o p q r s z = simp append_assoc

pub tally_written :
    (t : Tally) (a b d e f g h i j k : List ℕ) → a ≡ codes "tally" → b ≡ a ++ (codes " begun" ++ word (decimal t.begun)) → d ≡ b ++ (codes " ok" ++ word (decimal t.ok))
    → e ≡ d ++ (codes " refused" ++ word (decimal t.refused)) → f ≡ e ++ (codes " stored" ++ word (decimal t.stored)) → g ≡ f ++ (codes " shown" ++ word (decimal t.shown))
    → h ≡ g ++ (codes " acked" ++ word (decimal t.acked)) → i ≡ h ++ (codes " saved" ++ word (decimal t.saved)) → j ≡ i ++ (codes " left" ++ word (decimal t.left))
    → k ≡ j ++ (codes " lost" ++ word (decimal t.lost)) → k ++ lf ≡ tally_line t
tally_written t a b d e f g h i j k ea eb ed ee ef eg eh ei ej ek =
    rw (ek, ej, ei, eh, eg, ef, ee, ed, eb, ea) (regroup (codes "tally") (codes " begun") (word (decimal t.begun)) (codes " ok") (word (decimal t.ok)) (codes " refused")
    (word (decimal t.refused)) (codes " stored") (word (decimal t.stored)) (codes " shown") (word (decimal t.shown)) (codes " acked") (word (decimal t.acked))
    (codes " saved") (word (decimal t.saved)) (codes " left") (word (decimal t.left)) (codes " lost") (word (decimal t.lost)) lf)
