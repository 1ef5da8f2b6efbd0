-- The line of a report: how it is written, and what it ends with.
use Rattle.std.proofs.Common.{◌≡◌, ℕ, true, List, ◌++◌, append_assoc, refl}
use Rattle.std.specs.Prelude.{codes, decimal}
use Rattle.std.specs.Fmt.{digits}
use Rattle.std.proofs.lemmas.Bool.{eqb-true}
use Rattle.push_model.specs.declared.counts.Counts.{Counts}
use Rattle.push_model.specs.declared.reply.Reply.{Reply}
use Rattle.push_model.specs.declared.reply.Reply.TheVariants.{Counts as CountsAre}
use Rattle.push_model.specs.Caring.{counts_none}
use Rattle.schedule_text.specs.Words.{word}
use Rattle.schedule_text.specs.Replies.{lf, reply_line, SaysNoneWaits}

-- the line up to the number of orphans
abbrev front_of : Counts → List ℕ
front_of c =
    codes "report users" ++ (word (decimal c.users) ++ (codes " stored" ++ (word (decimal c.stored) ++ (codes " held" ++ (word (decimal c.held)
    ++ (codes " flights" ++ (word (decimal c.flights) ++ (codes " unsent" ++ (word (decimal c.unsent) ++ (codes " orphans" ++ word (decimal c.orphans)))))))))))

zero_is : decimal 0 ≡ codes "0"
unfolding digits
zero_is = refl

pub report_ends : (r : Reply) → counts_none r ≡ true → SaysNoneWaits (reply_line r)
report_ends (CountsAre c) h =
    let none : c.waiting ≡ 0 = eqb-true c.waiting 0 h in
    (front_of c, rw (none, zero_is) (simp append_assoc))
report_ends _ h = absurd (cc h)

-- ---- written count by count

regroup : (a b c d e f g h i j k l m n o z : List ℕ) → (a ++ (b ++ c) ++ (d ++ e) ++ (f ++ g) ++ (h ++ i) ++ (j ++ k) ++ (l ++ m) ++ (n ++ o)) ++ z
    ≡ a ++ (b ++ (c ++ (d ++ (e ++ (f ++ (g ++ (h ++ (i ++ (j ++ (k ++ (l ++ (m ++ (n ++ (o ++ z))))))))))))))
regroup a b c d e f g h i j k l m n o z = simp append_assoc

pub report_written :
    (c : Counts) (a b d e f g h i : List ℕ) → a ≡ codes "report" → b ≡ a ++ (codes " users" ++ word (decimal c.users)) → d ≡ b ++ (codes " stored" ++ word (decimal c.stored))
    → e ≡ d ++ (codes " held" ++ word (decimal c.held)) → f ≡ e ++ (codes " flights" ++ word (decimal c.flights)) → g ≡ f ++ (codes " unsent" ++ word (decimal c.unsent))
    → h ≡ g ++ (codes " orphans" ++ word (decimal c.orphans)) → i ≡ h ++ (codes " waiting" ++ word (decimal c.waiting)) → i ++ lf ≡ reply_line (CountsAre c)
report_written c a b d e f g h i ea eb ed ee ef eg eh ei =
    rw (ei, eh, eg, ef, ee, ed, eb, ea) (regroup (codes "report") (codes " users") (word (decimal c.users)) (codes " stored") (word (decimal c.stored)) (codes " held")
    (word (decimal c.held)) (codes " flights") (word (decimal c.flights)) (codes " unsent") (word (decimal c.unsent)) (codes " orphans") (word (decimal c.orphans))
    (codes " waiting") (word (decimal c.waiting)) lf)
