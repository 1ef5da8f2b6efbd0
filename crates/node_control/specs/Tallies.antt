-- The line of a tally, with its LF.
use Rattle.std.specs.Prelude.{ℕ, List, ◌++◌, codes, decimal}
use Rattle.push_model.specs.declared.counts.Tally.{Tally}
use Rattle.schedule_text.specs.Replies.{lf}
use Rattle.schedule_text.specs.Words.{word}

abbrev pub tally_line : Tally → List ℕ
tally_line t =
    codes "tally begun" ++ (word (decimal t.begun) ++ (codes " ok" ++ (word (decimal t.ok) ++ (codes " refused" ++ (word (decimal t.refused)
    ++ (codes " stored" ++ (word (decimal t.stored) ++ (codes " shown" ++ (word (decimal t.shown) ++ (codes " acked" ++ (word (decimal t.acked)
    ++ (codes " saved" ++ (word (decimal t.saved) ++ (codes " left" ++ (word (decimal t.left) ++ (codes " lost" ++ (word (decimal t.lost) ++ lf)))))))))))))))))
