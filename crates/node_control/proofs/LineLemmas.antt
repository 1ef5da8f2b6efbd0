-- Lines that were answered, and one more.
use Rattle.std.proofs.Common.{◌≡◌, ℕ, List, [], ◌∷◌, ◌++◌, refl, ap, sym, subst, ◌∙◌, append_assoc, Option}
use Rattle.std.specs.List.{AllByRecursion}
use Rattle.std.specs.Io.KnownBytes.{Appends}
use Rattle.std.proofs.lemmas.List.{append-nil}
use Rattle.push_model.specs.DeskViews.{DeskView, IsHonest, Made}
use Rattle.push_model.specs.declared.reply.Reply.{Reply}
use Rattle.schedule_text.specs.Replies.{reply_line}
use Rattle.node_sweep.specs.Entries.{Does}
use Rattle.node_sweep.proofs.EntryLemmas.{does_more, does_none}
use Rattle.autopush_main.specs.Lines.{NoLf}
use Rattle.autopush_main.specs.Replay.{lines_of}
use Rattle.autopush_main.proofs.Flow.{Appends-kept, Appends-then}
use Rattle.autopush_main.proofs.LineLaws.{lines_of-last, lines_of-line}
use Rattle.node_control.specs.Commands.{command_of}
use Rattle.node_control.specs.Lines.{Answered, AreAnswered, CutsLine, IsAnswered, with_lf}
use Rattle.node_control.specs.Steps.{AnswersLine, StopsAt}
use Rattle.node_control.specs.Works.{After, Before}
use Rattle.node_control.specs.declared.commands.Command.{Command}
use Rattle.node_control.specs.declared.commands.Command.TheVariants.{Kill, Up, Report, Stop, Unknown}
use Rattle.node_control.proofs.WorkLemmas.{honest_since}

-- ---- what is said of the desks, from earlier on

before_since : (G H : Type 0) (size : ℕ) (c : Command) (ms : List Made) (r : Reply) → (H → G) → Before G size c ms r → Before H size c ms r
before_since G H size (Kill n) ms r f h = h
before_since G H size (Up n) ms r f h = h
before_since G H size Report ms r f h = record { sweeps = h.sweeps; reports = h.reports; is = h.is; swept = h.swept; reported = h.reported; sums = h.sums; none_waits = λ g. h.none_waits (f g) }
before_since G H size Stop ms r f h = h
before_since G H size Unknown ms r f h = h

answered_since : (G H : Type 0) (size now : ℕ) (line : List ℕ) (ms : List Made) (r : Reply) → (H → G) → now ≡ size → IsAnswered G now line ms r → IsAnswered H size line ms r
answered_since G H size now line ms r f e h = record {
  first = h.first;
  rest = h.rest;
  is = h.is;
  before = subst (λ (n : ℕ). Before H n (command_of line) h.first r) e (before_since G H now (command_of line) h.first r f h.before);
  after = subst (λ (n : ℕ). After n (command_of line) h.rest) e h.after;
}

-- ---- what another spelling of the same asks for

same_answer : (H : Type 0) (size : ℕ) (line other : List ℕ) (ms : List Made) (r : Reply) → command_of other ≡ command_of line → IsAnswered H size other ms r → IsAnswered H size line ms r
same_answer H size line other ms r e h = record {
  first = h.first;
  rest = h.rest;
  is = h.is;
  before = subst (λ (c : Command). Before H size c h.first r) e h.before;
  after = subst (λ (c : Command). After size c h.rest) e h.after;
}

pub same_cut : (line other : List ℕ) (a b : DeskView) (held now : Option (List ℕ)) → command_of other ≡ command_of line → CutsLine other a b held now → CutsLine line a b held now
same_cut line other a b held now e h = record {
  entries = h.entries;
  reply = h.reply;
  before = subst (λ (c : Command). Before (IsHonest a) a.size c h.entries h.reply) e h.before;
  does = h.does;
  output = h.output;
}

-- ---- one more

are_more : (H : Type 0) (size : ℕ) (lines : List (List ℕ)) (line : List ℕ) (entries one : List Made) (text : List ℕ) (r : Reply)
    → AreAnswered H size lines entries text → IsAnswered H size line one r → AreAnswered H size (lines ++ line ∷ []) (entries ++ one) (text ++ reply_line r)
are_more H size [] line entries one text r f g =
    (one, [], r, [], rw f.0 (sym (append-nil one)), rw f.1 (sym (append-nil (reply_line r))), g, (refl, refl))
are_more H size (l ∷ lines) line entries one text r f g = (
  f.0,
  f.1 ++ one,
  f.2,
  f.3 ++ reply_line r,
  ap (λ (ms : List Made). ms ++ one) f.4 ∙ append_assoc f.0 f.1 one,
  ap (λ (t : List ℕ). t ++ reply_line r) f.5 ∙ append_assoc (reply_line f.2) f.3 (reply_line r),
  f.6,
  are_more H size lines line f.1 one f.3 r f.7 g,
)

whole_more : (lines : List (List ℕ)) (line : List ℕ) → AllByRecursion NoLf lines → NoLf line → AllByRecursion NoLf (lines ++ line ∷ [])
whole_more [] line f g = (g, tt)
whole_more (l ∷ lines) line f g = (f.0, whole_more lines line f.1 g)

pub nothing_answered : (a : DeskView) (held : Option (List ℕ)) → Appends held held [] → Answered [] a a held held
nothing_answered a held e = record { entries = []; text = []; whole = tt; answers = (refl, refl); does = does_none a; output = e }

pub answered_more : (lines : List (List ℕ)) (line other : List ℕ) (a m b : DeskView) (held mid now : Option (List ℕ)) → NoLf line → command_of other ≡ command_of line
    → Answered lines a m held mid → AnswersLine other m b mid now → Answered (lines ++ line ∷ []) a b held now
answered_more lines line other a m b held mid now no_lf e f g = record {
  entries = f.entries ++ g.entries;
  text = f.text ++ reply_line g.reply;
  whole = whole_more lines line f.whole no_lf;
  answers = are_more (IsHonest a) a.size lines line f.entries g.entries f.text g.reply f.answers
      (answered_since (IsHonest m) (IsHonest a) a.size m.size line g.entries g.reply (honest_since a m f.entries f.does) f.does.calls.same.size
      (same_answer (IsHonest m) m.size line other g.entries g.reply e g.made));
  does = does_more a m b f.entries g.entries f.does g.does;
  output = Appends-then held mid now f.text (reply_line g.reply) f.output g.output;
}

-- and then nothing
pub answered_still : (lines : List (List ℕ)) (line : List ℕ) (a m b : DeskView) (held mid now : Option (List ℕ)) → Answered lines a m held mid → StopsAt line m b mid now → Answered lines a b held now
answered_still lines line a m b held mid now f g = record {
  entries = f.entries;
  text = f.text;
  whole = f.whole;
  answers = f.answers;
  does = subst (λ (ms : List Made). Does a b ms) (append-nil f.entries) (does_more a m b f.entries [] f.does g.does);
  output = Appends-kept held mid now f.text f.output g.output;
}

-- ---- the bytes of lines

pub with_lf_more : (lines : List (List ℕ)) (line rest : List ℕ) → with_lf (lines ++ line ∷ []) ++ rest ≡ with_lf lines ++ (line ++ 10 ∷ rest)
with_lf_more [] line rest = simp append_assoc
with_lf_more (l ∷ lines) line rest =
    append_assoc l (10 ∷ with_lf (lines ++ line ∷ [])) rest
    ∙ (ap (λ (t : List ℕ). l ++ 10 ∷ t) (with_lf_more lines line rest) ∙ sym (append_assoc l (10 ∷ with_lf lines) (line ++ 10 ∷ rest)))

lines_on : (lines : List (List ℕ)) (rest : List ℕ) → AllByRecursion NoLf lines → lines_of (with_lf lines ++ rest) ≡ lines ++ lines_of rest
lines_on [] rest h = refl
lines_on (l ∷ lines) rest h =
    ap lines_of (append_assoc l (10 ∷ with_lf lines) rest)
    ∙ (lines_of-line l (with_lf lines ++ rest) h.0 ∙ ap (λ (ls : List (List ℕ)). l ∷ ls) (lines_on lines rest h.1))

pub lines_whole : (lines : List (List ℕ)) → AllByRecursion NoLf lines → lines_of (with_lf lines ++ []) ≡ lines
unfolding lines_of
lines_whole lines h = lines_on lines [] h ∙ append-nil lines

pub lines_last : (lines : List (List ℕ)) (b : ℕ) (line : List ℕ) → AllByRecursion NoLf lines → NoLf (b ∷ line) → lines_of (with_lf lines ++ b ∷ line) ≡ lines ++ (b ∷ line) ∷ []
lines_last lines b line h g = lines_on lines (b ∷ line) h ∙ ap (λ (ls : List (List ℕ)). lines ++ ls) (lines_of-last b line g)
