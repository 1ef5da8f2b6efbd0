-- Where a replay stands between two turns.
use Rattle.std.proofs.Common.{◌≡◌, ℕ, ◌+◌, ◌≤◌, true, List, [], ◌∷◌, ◌++◌, length, map, Option, Some, None, refl, sym, ap, subst, ◌∙◌, append_assoc, arith, inl, inr, ◌⊎◌}
use Rattle.std.specs.Prelude.{Bool, false, ◌&&◌, IfSome}
use Rattle.std.specs.List.{AllByRecursion}
use Rattle.std.specs.Io.KnownBytes.{Consumes, Appends, Keeps}
use Rattle.std.proofs.lemmas.List.{append-nil, length-append}
use Rattle.push_model.specs.Worlds.{World, start}
use Rattle.push_model.specs.Steps.{step}
use Rattle.push_model.specs.Histories.{history}
use Rattle.push_model.specs.Caring.{none_waits, none_waited, counts_none}
use Rattle.push_model.specs.declared.reply.Reply.{Reply}
use Rattle.push_model.specs.declared.step.Step.{Step}
use Rattle.push_model.specs.declared.step.Step.TheVariants.{Report}
use Rattle.push_laws.specs.Headline.{Headline}
use Rattle.schedule_text.specs.Spelling.{spell}
use Rattle.schedule_text.specs.Replies.{reply_line, SaysNoneWaits}
use Rattle.autopush_main.specs.Lines.{NoLf, Moves}
use Rattle.autopush_main.specs.Known.{AppendsFront}
use Rattle.autopush_main.specs.Replay.{beginning, AreLines, IsRefused, IsTaken, lines_of, text, world_of, SaysForReport, ReportsSay, KeepsHeadline, refusal, ended, IsRefusedBehind, IsWholeLine, IsLastLine, IsDone, IsRefusal, IsBroken, IsCut}
use Rattle.autopush_main.specs.Refusals.{IsWhy, IsWhyBehind, IsRefusalOf}
use Rattle.autopush_main.specs.Turns.{NotTaken, FirstIs, RefusesFirst, Advances, Finishes, Refuses, RefusesAs, CutsStep, CutsFirst, Turns, Replays}
use Rattle.autopush_main.specs.declared.endings.Refusal.{Refusal}
use Rattle.autopush_main.specs.declared.endings.End.{End}
use Rattle.autopush_main.specs.declared.endings.End.TheVariants as ends
use Rattle.autopush_main.proofs.Flow.{Consumes-then, Appends-then, Appends-kept, Appends-none}
use Rattle.autopush_main.proofs.LineLaws.{lines_of-line}

nothing_read : (before : Option (List ℕ)) → Consumes before before []
nothing_read None = tt
nothing_read (Some all) = refl

nothing_written : (held : Option (List ℕ)) → Appends held held []
nothing_written None = tt
nothing_written (Some bytes) = sym (append-nil bytes)

limit_of : (line : List ℕ) (count n : ℕ) → n ≡ count → NotTaken line count → IsRefused line ⊎ (n ≡ 1000000)
limit_of line count n e (inl refused) = inl refused
limit_of line count n e (inr full) = inr (e ∙ full)

-- these steps' lines were read and answered, and the pending bytes stand behind them
pub record Progress (before now : Option (List ℕ)) (pending : List ℕ) (count : ℕ) (world : World) (held written : Option (List ℕ)) : Type 0 where
  pub steps : List Step
  pub taken : AllByRecursion IsTaken steps
  pub input : Consumes before now (ended steps ++ pending)
  pub counted : length steps ≡ count
  pub reached : world ≡ world_of beginning steps
  pub output : Appends held written (text beginning steps)

pub begins : (before held : Option (List ℕ)) → Progress before before [] 0 beginning held held
begins before held = record { steps = []; taken = tt; input = nothing_read before; counted = refl; reached = refl; output = nothing_written held }

-- ---- one step more

ended-push : (steps : List Step) (s : Step) (rest : List ℕ) → ended (steps ++ s ∷ []) ++ rest ≡ ended steps ++ (spell s ++ 10 ∷ rest)
ended-push [] s rest = append_assoc (spell s) (10 ∷ []) rest
ended-push (t ∷ steps) s rest =
    append_assoc (spell t) (10 ∷ ended (steps ++ s ∷ [])) rest
    ∙ ap (λ (b : List ℕ). spell t ++ 10 ∷ b) (ended-push steps s rest)
    ∙ sym (append_assoc (spell t) (10 ∷ ended steps) (spell s ++ 10 ∷ rest))

world_of-push : (w : World) (steps : List Step) (s : Step) → world_of w (steps ++ s ∷ []) ≡ (step (world_of w steps) s).0
world_of-push w [] s = refl
world_of-push w (t ∷ steps) s = world_of-push (step w t).0 steps s

text-append : (w : World) (steps more : List Step) → text w (steps ++ more) ≡ text w steps ++ text (world_of w steps) more
text-append w [] more = refl
text-append w (t ∷ steps) more =
    ap (λ (b : List ℕ). reply_line (step w t).1 ++ b) (text-append (step w t).0 steps more)
    ∙ sym (append_assoc (reply_line (step w t).1) (text (step w t).0 steps) (text (world_of (step w t).0 steps) more))

taken-push : (steps : List Step) (s : Step) → AllByRecursion IsTaken steps → IsTaken s → AllByRecursion IsTaken (steps ++ s ∷ [])
taken-push [] s h k = (k, tt)
taken-push (t ∷ steps) s h k = (h.0, taken-push steps s h.1 k)

pub goes_on : (before now after : Option (List ℕ)) (pending rest : List ℕ) (count : ℕ) (old new : World) (held written more : Option (List ℕ))
    → Progress before now pending count old held written → Advances now after pending rest old new written more → Progress before after rest (count + 1) new held more
goes_on before now after pending rest count old new held written more p a =
    let steps = p.steps ++ a.made ∷ [] in
    let bytes : (ended p.steps ++ pending) ++ a.read ≡ ended steps ++ rest =
    append_assoc (ended p.steps) pending a.read ∙ ap (λ (b : List ℕ). ended p.steps ++ b) a.joined ∙ sym (ended-push p.steps a.made rest) in
    let replied : text beginning p.steps ++ reply_line (step old a.made).1 ≡ text beginning steps =
    ap (λ (w : World). text beginning p.steps ++ reply_line (step w a.made).1) p.reached
    ∙ ap (λ (b : List ℕ). text beginning p.steps ++ b) (sym (append-nil (reply_line (step (world_of beginning p.steps) a.made).1)))
    ∙ sym (text-append beginning p.steps (a.made ∷ [])) in
    record {
      steps = steps;
      taken = taken-push p.steps a.made p.taken a.taken;
      input = subst (Consumes before after) bytes (Consumes-then before now after (ended p.steps ++ pending) a.read p.input a.input);
      counted = omega (arith, p.counted, length-append p.steps (a.made ∷ []));
      reached = a.moved ∙ ap (λ (w : World). (step w a.made).0) p.reached ∙ sym (world_of-push beginning p.steps a.made);
      output = subst (Appends held more) replied (Appends-then held written more (text beginning p.steps) (reply_line (step old a.made).1) p.output a.output);
    }

-- ---- how it ends

lines_of-ended : (steps : List Step) (rest : List ℕ) → AllByRecursion IsTaken steps → lines_of (ended steps ++ rest) ≡ map spell steps ++ lines_of rest
lines_of-ended [] rest h = refl
lines_of-ended (s ∷ steps) rest h =
    ap lines_of (append_assoc (spell s) (10 ∷ ended steps) rest)
    ∙ lines_of-line (spell s) (ended steps ++ rest) h.0.no_lf
    ∙ ap (λ (ls : List (List ℕ)). spell s ∷ ls) (lines_of-ended steps rest h.1)

are_lines-append : (steps more : List Step) (ls : List (List ℕ)) → AllByRecursion IsTaken steps → AreLines ls more → AreLines (map spell steps ++ ls) (steps ++ more)
are_lines-append [] more ls h k = k
are_lines-append (s ∷ steps) more ls h k = (record { spelled = refl; range = h.0.range; short = h.0.short }, are_lines-append steps more ls h.1 k)

-- all that there was, from what was still there
from_now : (before now : Option (List ℕ)) (read : List ℕ) (P Q : List ℕ → Type 0) → Consumes before now read → IfSome now Q → ((left : List ℕ) → Q left → P (read ++ left)) → IfSome before P
from_now None now read P Q c q h = tt
from_now (Some all) None read P Q c q h = absurd c
from_now (Some all) (Some left) read P Q c q h = subst P (sym c) (h left q)

-- the laws hold of each list of steps
abbrev pub Law : Type 0
Law = (steps : List Step) → KeepsHeadline steps

pub done_from : Law → (before now after : Option (List ℕ)) (pending : List ℕ) (count : ℕ) (world : World) (held written more : Option (List ℕ))
    → Progress before now pending count world held written → Finishes now after pending count world written more → IsDone before after held more
done_from law before now after pending count world held written more p f =
    let read = (ended p.steps ++ pending) ++ f.read in
    let lines : AreLines (lines_of read) (p.steps ++ f.steps) =
    subst (λ (ls : List (List ℕ)). AreLines ls (p.steps ++ f.steps)) (sym (ap lines_of (append_assoc (ended p.steps) pending f.read) ∙ lines_of-ended p.steps (pending ++ f.read) p.taken)) (are_lines-append p.steps f.steps (lines_of (pending ++ f.read)) p.taken f.lines) in
    let replied : text beginning p.steps ++ text world f.steps ≡ text beginning (p.steps ++ f.steps) =
    ap (λ (w : World). text beginning p.steps ++ text w f.steps) p.reached ∙ sym (text-append beginning p.steps f.steps) in
    record {
      read = read;
      steps = p.steps ++ f.steps;
      input = Consumes-then before now after (ended p.steps ++ pending) f.read p.input f.input;
      ended = from_now before now (ended p.steps ++ pending) (λ all. all ≡ read) (λ left. left ≡ f.read) p.input f.all_read (λ left e. ap (λ (b : List ℕ). (ended p.steps ++ pending) ++ b) e);
      lines = lines;
      count = omega (arith, p.counted, f.room, length-append p.steps f.steps);
      output = subst (Appends held more) replied (Appends-then held written more (text beginning p.steps) (text world f.steps) p.output f.output);
      headline = law (p.steps ++ f.steps);
    }

-- the lines behind those of the steps
behind_steps : (before now : Option (List ℕ)) (pending : List ℕ) (count : ℕ) (world : World) (held written : Option (List ℕ))
    → (p : Progress before now pending count world held written) → RefusesFirst now pending count → IsRefusedBehind before p.steps
behind_steps before now pending count world held written p r =
    from_now before now (ended p.steps ++ pending) _ _ p.input r (λ left q.
    (q.0, q.1, ap lines_of (append_assoc (ended p.steps) pending left) ∙ lines_of-ended p.steps (pending ++ left) p.taken ∙ ap (λ (ls : List (List ℕ)). map spell p.steps ++ ls) q.2, limit_of q.0 count (length p.steps) p.counted q.3))

-- what was read, by the lines that were answered and what stands behind them
reads_on : (before now after : Option (List ℕ)) (front pending read : List ℕ) → Consumes before now (front ++ pending) → Consumes now after read → Consumes before after (front ++ (pending ++ read))
reads_on before now after front pending read c d = subst (Consumes before after) (append_assoc front pending read) (Consumes-then before now after (front ++ pending) read c d)

pub refused_from : Law → (before now after : Option (List ℕ)) (pending : List ℕ) (count : ℕ) (world : World) (held written more : Option (List ℕ))
    → count ≤ 1000000 → Progress before now pending count world held written → Refuses now after pending count written more → IsRefusal before after held more
refused_from law before now after pending count world held written more le p r =
    record {
      steps = p.steps;
      taken = p.taken;
      count = omega (arith, p.counted);
      behind = pending ++ r.read;
      input = reads_on before now after (ended p.steps) pending r.read p.input r.input;
      refused = behind_steps before now pending count world held written p r.refused;
      output = Appends-then held written more (text beginning p.steps) (refusal (length p.steps + 1)) p.output (subst (λ (n : ℕ). Appends written more (refusal (n + 1))) (sym p.counted) r.output);
      headline = law p.steps;
    }

-- why the line behind those of the steps is refused
why_behind : (r : Refusal) (before now : Option (List ℕ)) (pending : List ℕ) (count : ℕ) (world : World) (held written : Option (List ℕ))
    → (p : Progress before now pending count world held written) → FirstIs (λ line. IsWhy r.cause line count) now pending → IsWhyBehind r.cause before p.steps
why_behind r before now pending count world held written p why =
    from_now before now (ended p.steps ++ pending) _ _ p.input why (λ left q.
    (q.0, q.1, ap lines_of (append_assoc (ended p.steps) pending left) ∙ lines_of-ended p.steps (pending ++ left) p.taken ∙ ap (λ (ls : List (List ℕ)). map spell p.steps ++ ls) q.2, subst (λ (n : ℕ). IsWhy r.cause q.0 n) (sym p.counted) q.3))

refusal_from : Law → (r : Refusal) (before now after : Option (List ℕ)) (pending : List ℕ) (count : ℕ) (world : World) (held written more : Option (List ℕ))
    → count ≤ 1000000 → Progress before now pending count world held written → RefusesAs r now after pending count written more → IsRefusalOf r before after held more
unfolding refused_from
refusal_from law r before now after pending count world held written more le p a =
    record {
      answered = refused_from law before now after pending count world held written more le p a.refuses;
      number = a.number ∙ ap (λ (n : ℕ). n + 1) (sym p.counted);
      cause = why_behind r before now pending count world held written p a.cause;
    }

pub broken_from : Law → (before now after : Option (List ℕ)) (pending rest : List ℕ) (count : ℕ) (world : World) (held written more : Option (List ℕ))
    → count ≤ 1000000 → Progress before now pending count world held written → Moves now after pending rest → NoLf rest → Keeps written more → IsBroken before after held more
broken_from law before now after pending rest count world held written more le p m no_lf k =
    record {
      steps = p.steps;
      taken = p.taken;
      count = omega (arith, p.counted);
      partial = rest;
      input = subst (λ (b : List ℕ). Consumes before after (ended p.steps ++ b)) (sym m.joined) (reads_on before now after (ended p.steps) pending m.read p.input m.input);
      no_lf = no_lf;
      output = Appends-kept held written more (text beginning p.steps) p.output k;
      headline = law p.steps;
    }

-- ---- cut

-- the last line of what was still there is the last of all
last_of : (before now : Option (List ℕ)) (front pending read : List ℕ) → Consumes before now (front ++ pending) → IfSome now (λ all. all ≡ read) → IfSome before (λ all. all ≡ front ++ (pending ++ read))
last_of before now front pending read c h =
    from_now before now (front ++ pending) (λ all. all ≡ front ++ (pending ++ read)) (λ left. left ≡ read) c h (λ left e. ap (λ (b : List ℕ). (front ++ pending) ++ b) e ∙ append_assoc front pending read)

line_of : (before now : Option (List ℕ)) (steps : List Step) (s : Step) (pending read : List ℕ) → Consumes before now (ended steps ++ pending)
    → IsWholeLine (pending ++ read) s ⊎ ((pending ++ read ≡ spell s) × IfSome now (λ all. all ≡ read)) → IsWholeLine (pending ++ read) s ⊎ IsLastLine (pending ++ read) s steps before
line_of before now steps s pending read c (inl whole) = inl whole
line_of before now steps s pending read c (inr last) = inr (last.0, last_of before now (ended steps) pending read c last.1)

cut_by : Law → (status : ℕ) (before now after : Option (List ℕ)) (pending read : List ℕ) (count : ℕ) (old new : World) (held written more : Option (List ℕ))
    → count ≤ 1000000 → Progress before now pending count old held written → Consumes now after read
    → ((status ≡ 7) × Keeps written more) ⊎ CutsStep (pending ++ read) now read count old new written more ⊎ CutsFirst now pending count written more → IsCut status before after held more
cut_by law status before now after pending read count old new held written more le p input (inl kept) =
    record {
      earlier = p.steps;
      steps = p.steps;
      taken = p.taken;
      count = omega (arith, p.counted);
      behind = pending ++ read;
      input = reads_on before now after (ended p.steps) pending read p.input input;
      piece = [];
      whose = inl (kept.0, refl, refl);
      mid = written;
      whole = p.output;
      cut = record { front = []; rest = []; parts = refl; appended = Appends-none written more kept.1 };
      headline = law p.steps;
    }
cut_by law status before now after pending read count old new held written more le p input (inr (inl d)) =
    record {
      earlier = p.steps;
      steps = p.steps ++ d.made ∷ [];
      taken = taken-push p.steps d.made p.taken d.taken;
      count = omega (arith, p.counted, d.room, length-append p.steps (d.made ∷ []));
      behind = pending ++ read;
      input = reads_on before now after (ended p.steps) pending read p.input input;
      piece = reply_line (step old d.made).1;
      whose = inr (inl (record {
        last = d.made;
        is_last = refl;
        line = line_of before now p.steps d.made pending read p.input d.line;
        reply = ap (λ (w : World). reply_line (step w d.made).1) p.reached;
      }));
      mid = written;
      whole = p.output;
      cut = d.output;
      headline = law (p.steps ++ d.made ∷ []);
    }
cut_by law status before now after pending read count old new held written more le p input (inr (inr d)) =
    record {
      earlier = p.steps;
      steps = p.steps;
      taken = p.taken;
      count = omega (arith, p.counted);
      behind = pending ++ read;
      input = reads_on before now after (ended p.steps) pending read p.input input;
      piece = refusal (length p.steps + 1);
      whose = inr (inr (refl, refl, behind_steps before now pending count old held written p d.refused));
      mid = written;
      whole = p.output;
      cut = subst (λ (n : ℕ). AppendsFront written more (refusal (n + 1))) (sym p.counted) d.output;
      headline = law p.steps;
    }

pub ends_so : Law → (end : End) (before now after : Option (List ℕ)) (pending rest : List ℕ) (count : ℕ) (old new : World) (held written more : Option (List ℕ))
    → count ≤ 1000000 → Progress before now pending count old held written → Turns (Some end) now after pending rest count old new written more → Replays end before after held more
ends_so law ends.Done before now after pending rest count old new held written more le p t = done_from law before now after pending count old held written more p t
ends_so law (ends.Refused r) before now after pending rest count old new held written more le p t = refusal_from law r before now after pending count old held written more le p t
ends_so law (ends.ReadFault f) before now after pending rest count old new held written more le p t = broken_from law before now after pending rest count old held written more le p t.0 t.1 t.2
ends_so law (ends.WriteFault f) before now after pending rest count old new held written more le p t = cut_by law 6 before now after pending t.read count old new held written more le p t.input t.how
ends_so law ends.NoMemory before now after pending rest count old new held written more le p t = cut_by law 7 before now after pending t.read count old new held written more le p t.input t.how

-- ---- the headline of each replay

both_true : (a b : Bool) → (a && b) ≡ true → (a ≡ true) × (b ≡ true)
both_true true b h = (refl, h)
both_true false b h = absurd (cc h)

-- what the laws of histories and of report lines say
abbrev pub Kept : Type 0
Kept = (by shard next : ℕ) (steps : List Step) → Headline (start shard next) (history step by (start shard next) steps)

abbrev pub Said : Type 0
Said = (r : Reply) → counts_none r ≡ true → SaysNoneWaits (reply_line r)

says_for : Said → (s : Step) (r : Reply) → none_waits s r ≡ true → SaysForReport s (reply_line r)
says_for said Report r h = said r h
says_for said _ r h = tt

reports_say : Said → (w : World) (steps : List Step) → none_waited (history step 0 w steps) ≡ true → ReportsSay w steps
reports_say said w [] h = tt
reports_say said w (s ∷ steps) h =
    let both = both_true (none_waits s (step w s).1) (none_waited (history step 0 (step w s).0 steps)) h in
    (says_for said s (step w s).1 both.0, reports_say said (step w s).0 steps both.1)

pub headlines : Kept → Said → Law
headlines kept said steps =
    let h = kept 0 0 1 steps in
    record { history = h; reports = reports_say said beginning steps h.reports }
