-- What a turn does, from what its calls did.
use Rattle.std.proofs.Common.{◌≡◌, ℕ, ◌+◌, ◌<◌, ◌≤◌, List, [], ◌∷◌, ◌++◌, length, take, drop, Option, Some, None, refl, sym, ap, subst, ◌∙◌, append_assoc, arith, inl, inr, ◌⊎◌}
use Rattle.std.specs.Prelude.{IfSome}
use Rattle.std.specs.Io.KnownBytes.{Appends}
use Rattle.std.proofs.lemmas.List.{append-nil, take-append-drop, length-append, length-take}
use Rattle.push_model.specs.Worlds.{World}
use Rattle.push_model.specs.Steps.{step}
use Rattle.schedule_text.specs.Replies.{reply_line}
use Rattle.autopush_main.specs.Known.{AppendsFront}
use Rattle.autopush_main.specs.Lines.{NoLf, Moves, MovesAll}
use Rattle.autopush_main.specs.Replay.{AreLines, IsTaken, lines_of, refusal}
use Rattle.autopush_main.specs.Refusals.{IsWhy}
use Rattle.autopush_main.specs.Turns.{lone, Steps, Writes, NotTaken, FirstIs, CutsSteps, CutsRefused, DoesLine, Cuts, Turns, Last, DoesLast, RefusesBy}
use Rattle.autopush_main.specs.declared.endings.Cause.{Cause}
use Rattle.autopush_main.specs.declared.endings.Cause.TheVariants.{TooMany, TooLong, NoStep}
use Rattle.autopush_main.specs.declared.endings.End.{End}
use Rattle.autopush_main.specs.declared.endings.End.TheVariants as ends
use Rattle.autopush_main.proofs.LineLaws.{lines_of-line, lines_of-last, lines_of-begin}

pub last_is : (line : List ℕ) (count : ℕ) (old new : World) (held now : Option (List ℕ)) → 0 < length line → count < 1000000 → Writes line old new held now → Last line count old held now
last_is [] count old new held now some lt w = absurd (omega arith)
last_is (b ∷ line) count old new held now some lt w =
    record {
      steps = w.steps.made ∷ [];
      lines = (w.steps.is_line, tt);
      room = omega arith;
      output = subst (Appends held now) (w.steps.replied ∙ sym (append-nil (reply_line (step old w.steps.made).1))) w.output;
    }

-- the step of a line with no LF
taken : (line reply : List ℕ) (old new : World) (s : Steps line reply old new) → NoLf line → IsTaken s.made
taken line reply old new s no_lf =
    record { range = s.is_line.range; short = subst (λ (t : List ℕ). length t ≤ 16384) s.is_line.spelled s.is_line.short; no_lf = subst NoLf s.is_line.spelled no_lf }

-- what holds of all that stands behind the pending bytes holds of what was told
told : (before after : Option (List ℕ)) (old new : List ℕ) (P : List ℕ → Type 0) → Moves before after old new → ((left : List ℕ) → P (new ++ left)) → IfSome before (λ all. P (old ++ all))
told None after old new P m h = tt
told (Some all) None old new P m h = absurd m.input
told (Some all) (Some left) old new P m h =
    subst P (ap (λ (t : List ℕ). t ++ left) m.joined ∙ append_assoc old m.read left ∙ ap (λ (t : List ℕ). old ++ t) (sym m.input)) (h left)

whole_told : (before after : Option (List ℕ)) (old new : List ℕ) (P : List ℕ → Type 0) → MovesAll before after old new → P new → IfSome before (λ all. P (old ++ all))
whole_told None after old new P m h = tt
whole_told (Some all) after old new P m h = subst P (m.joined ∙ ap (λ (t : List ℕ). old ++ t) (sym m.whole)) h

-- ---- refused lines

-- a line that is refused isn't taken
pub not_taken : (cause : Cause) (line : List ℕ) (count : ℕ) → IsWhy cause line count → NotTaken line count
not_taken TooMany line count why = inr why
not_taken TooLong line count why = inl (λ s is. omega (arith, is.short, why.1))
not_taken (NoStep wrong) line count why = inl why.2

abbrev LineIn : (List ℕ → Type 0) → List ℕ → Type 0
LineIn P bytes = (line : List ℕ) × (more : List (List ℕ)) × (lines_of bytes ≡ line ∷ more) × P line

split_at : (n : ℕ) (bytes rest : List ℕ) → drop n bytes ≡ 10 ∷ rest → bytes ≡ take n bytes ++ 10 ∷ rest
split_at n bytes rest e = sym (take-append-drop n bytes) ∙ ap (λ (t : List ℕ). take n bytes ++ t) e

-- a whole line
first_line : (P : List ℕ → Type 0) (before after : Option (List ℕ)) (pending filled : List ℕ) (n : ℕ)
    → Moves before after pending filled → NoLf (take n filled) → drop n filled ≡ 10 ∷ drop (n + 1) filled → P (take n filled) → FirstIs P before pending
first_line P before after pending filled n m no_lf e holds =
    told before after pending filled (LineIn P) m (λ left.
    let whole : filled ++ left ≡ take n filled ++ 10 ∷ (drop (n + 1) filled ++ left) = ap (λ (t : List ℕ). t ++ left) (split_at n filled (drop (n + 1) filled) e) ∙ append_assoc (take n filled) (10 ∷ drop (n + 1) filled) left in
    (take n filled, lines_of (drop (n + 1) filled ++ left), ap lines_of whole ∙ lines_of-line (take n filled) (drop (n + 1) filled ++ left) no_lf, holds))

lone_lines : (bytes : List ℕ) → NoLf bytes → lines_of bytes ≡ lone bytes
unfolding lines_of
lone_lines [] h = refl
lone_lines (b ∷ bytes) h = lines_of-last b bytes h

nonempty_lone : (bytes : List ℕ) → 0 < length bytes → lone bytes ≡ bytes ∷ []
nonempty_lone [] h = absurd (omega arith)
nonempty_lone (b ∷ bytes) h = refl

-- the last line, with no LF
last_line : (P : List ℕ → Type 0) (before after : Option (List ℕ)) (pending filled : List ℕ)
    → MovesAll before after pending filled → NoLf filled → 0 < length filled → P filled → FirstIs P before pending
last_line P before after pending filled m no_lf some holds =
    whole_told before after pending filled (LineIn P) m (filled, [], lone_lines filled no_lf ∙ nonempty_lone filled some, holds)

-- a line that begins with more bytes than a line may have
too_long : (P : List ℕ → Type 0) (p rest : List ℕ) → 16384 < length p → NoLf p → ((line : List ℕ) → 16384 < length line → P line) → LineIn P (p ++ rest)
too_long P [] rest long no_lf holds = absurd (omega arith)
too_long P (b ∷ p) rest long no_lf holds =
    let t = lines_of-begin b p rest no_lf in
    ((b ∷ p) ++ t.tail, t.more, t.lines, holds ((b ∷ p) ++ t.tail) (omega (arith, length-append (b ∷ p) t.tail)))

long_line : (P : List ℕ → Type 0) (before after : Option (List ℕ)) (pending filled : List ℕ)
    → Moves before after pending filled → 16384 < length filled → NoLf (take 16385 filled) → ((line : List ℕ) → 16384 < length line → P line) → FirstIs P before pending
long_line P before after pending filled m long no_lf holds =
    told before after pending filled (LineIn P) m (λ left.
    let t = too_long P (take 16385 filled) (drop 16385 filled ++ left) (omega (arith, length-take 16385 filled)) no_lf holds in
    let whole : filled ++ left ≡ take 16385 filled ++ (drop 16385 filled ++ left) = ap (λ (t : List ℕ). t ++ left) (sym (take-append-drop 16385 filled)) ∙ append_assoc (take 16385 filled) (drop 16385 filled) left in
    (t.0, t.1, ap lines_of whole ∙ t.2, t.3))

-- ---- a whole line

cut_line : (status : ℕ) (before after : Option (List ℕ)) (pending filled : List ℕ) (n count : ℕ) (old new : World) (held now : Option (List ℕ))
    → Moves before after pending filled → NoLf (take n filled) → drop n filled ≡ 10 ∷ drop (n + 1) filled
    → CutsSteps (take n filled) count old new held now ⊎ CutsRefused (take n filled) count old new held now → Cuts status before after pending count old new held now
cut_line status before after pending filled n count old new held now m no_lf e (inl d) =
    record {
      read = m.read;
      input = m.input;
      how = inr (inl (record {
        room = d.room;
        made = d.steps.made;
        taken = taken (take n filled) d.reply old new d.steps no_lf;
        line = inl (drop (n + 1) filled, sym m.joined ∙ split_at n filled (drop (n + 1) filled) e ∙ ap (λ (t : List ℕ). t ++ 10 ∷ drop (n + 1) filled) d.steps.is_line.spelled);
        moved = d.steps.moved;
        output = subst (AppendsFront held now) d.steps.replied d.output;
      }));
    }
cut_line status before after pending filled n count old new held now m no_lf e (inr d) =
    record { read = m.read; input = m.input; how = inr (inr (record { refused = first_line (λ line. NotTaken line count) before after pending filled n m no_lf e d.cause; output = d.output })) }

pub line_turn : (r : Option End) (before after : Option (List ℕ)) (pending filled : List ℕ) (n count : ℕ) (old new : World) (held now : Option (List ℕ))
    → Moves before after pending filled → NoLf (take n filled) → drop n filled ≡ 10 ∷ drop (n + 1) filled
    → DoesLine r (take n filled) count old new held now → Turns r before after pending (drop (n + 1) filled) count old new held now
line_turn None before after pending filled n count old new held now m no_lf e d =
    let s = d.1.steps in (
      d.0,
      record {
        made = s.made;
        taken = taken (take n filled) d.1.reply old new s no_lf;
        read = m.read;
        input = m.input;
        joined = sym m.joined ∙ split_at n filled (drop (n + 1) filled) e ∙ ap (λ (t : List ℕ). t ++ 10 ∷ drop (n + 1) filled) s.is_line.spelled;
        moved = s.moved;
        output = subst (Appends held now) s.replied d.1.output;
      },
    )
line_turn (Some (ends.Refused r)) before after pending filled n count old new held now m no_lf e d =
    record {
      refuses = record { read = m.read; input = m.input; refused = first_line (λ line. NotTaken line count) before after pending filled n m no_lf e (not_taken r.cause (take n filled) count d.0.1); output = d.1 };
      number = d.0.0;
      cause = first_line (λ line. IsWhy r.cause line count) before after pending filled n m no_lf e d.0.1;
    }
line_turn (Some (ends.WriteFault f)) before after pending filled n count old new held now m no_lf e d = cut_line 6 before after pending filled n count old new held now m no_lf e d
line_turn (Some ends.NoMemory) before after pending filled n count old new held now m no_lf e (inl d) = record { read = m.read; input = m.input; how = inl (refl, d.output) }
line_turn (Some ends.NoMemory) before after pending filled n count old new held now m no_lf e (inr d) = cut_line 7 before after pending filled n count old new held now m no_lf e d
line_turn (Some ends.Done) before after pending filled n count old new held now m no_lf e d = absurd d
line_turn (Some (ends.ReadFault f)) before after pending filled n count old new held now m no_lf e d = absurd d

-- ---- the last line

cut_last : (status : ℕ) (before after : Option (List ℕ)) (pending filled : List ℕ) (count : ℕ) (old new : World) (held now : Option (List ℕ))
    → MovesAll before after pending filled → NoLf filled → 0 < length filled → CutsSteps filled count old new held now ⊎ CutsRefused filled count old new held now → Cuts status before after pending count old new held now
cut_last status before after pending filled count old new held now m no_lf some (inl d) =
    record {
      read = m.read;
      input = m.input;
      how = inr (inl (record {
        room = d.room;
        made = d.steps.made;
        taken = taken filled d.reply old new d.steps no_lf;
        line = inr (sym m.joined ∙ d.steps.is_line.spelled, m.whole);
        moved = d.steps.moved;
        output = subst (AppendsFront held now) d.steps.replied d.output;
      }));
    }
cut_last status before after pending filled count old new held now m no_lf some (inr d) =
    record { read = m.read; input = m.input; how = inr (inr (record { refused = last_line (λ line. NotTaken line count) before after pending filled m no_lf some d.cause; output = d.output })) }

pub end_turn : (r : Option End) (before after : Option (List ℕ)) (pending filled rest : List ℕ) (count : ℕ) (old new : World) (held now : Option (List ℕ))
    → MovesAll before after pending filled → NoLf filled → DoesLast r filled count old new held now → Turns r before after pending rest count old new held now
end_turn None before after pending filled rest count old new held now m no_lf d = absurd d
end_turn (Some ends.Done) before after pending filled rest count old new held now m no_lf d =
    record {
      read = m.read;
      input = m.input;
      all_read = m.whole;
      steps = d.steps;
      lines = subst (λ (ls : List (List ℕ)). AreLines ls d.steps) (sym (lone_lines filled no_lf) ∙ ap lines_of m.joined) d.lines;
      room = d.room;
      output = d.output;
    }
end_turn (Some (ends.Refused r)) before after pending filled rest count old new held now m no_lf d =
    record {
      refuses = record { read = m.read; input = m.input; refused = last_line (λ line. NotTaken line count) before after pending filled m no_lf d.0 (not_taken r.cause filled count d.1.0.1); output = d.1.1 };
      number = d.1.0.0;
      cause = last_line (λ line. IsWhy r.cause line count) before after pending filled m no_lf d.0 d.1.0.1;
    }
end_turn (Some (ends.WriteFault f)) before after pending filled rest count old new held now m no_lf d = cut_last 6 before after pending filled count old new held now m no_lf d.0 d.1
end_turn (Some ends.NoMemory) before after pending filled rest count old new held now m no_lf (some, inl d) = record { read = m.read; input = m.input; how = inl (refl, d.output) }
end_turn (Some ends.NoMemory) before after pending filled rest count old new held now m no_lf (some, inr d) = cut_last 7 before after pending filled count old new held now m no_lf some d
end_turn (Some (ends.ReadFault f)) before after pending filled rest count old new held now m no_lf d = absurd d

-- ---- a line over the limit

cut_long : (status : ℕ) (before after : Option (List ℕ)) (pending filled : List ℕ) (count : ℕ) (old new : World) (held now : Option (List ℕ))
    → Moves before after pending filled → 16384 < length filled → NoLf (take 16385 filled) → ((line : List ℕ) → 16384 < length line → NotTaken line count) → AppendsFront held now (refusal (count + 1)) → Cuts status before after pending count old new held now
cut_long status before after pending filled count old new held now m long no_lf none d =
    record { read = m.read; input = m.input; how = inr (inr (record { refused = long_line (λ line. NotTaken line count) before after pending filled m long no_lf none; output = d })) }

pub long_turn : (r : End) (cause : Cause) (before after : Option (List ℕ)) (pending filled rest : List ℕ) (count : ℕ) (old new : World) (held now : Option (List ℕ))
    → Moves before after pending filled → 16384 < length filled → NoLf (take 16385 filled) → ((line : List ℕ) → 16384 < length line → IsWhy cause line count) → RefusesBy r cause count held now → Turns (Some r) before after pending rest count old new held now
long_turn (ends.Refused r) cause before after pending filled rest count old new held now m long no_lf why d =
    record {
      refuses = record { read = m.read; input = m.input; refused = long_line (λ line. NotTaken line count) before after pending filled m long no_lf (λ line far. not_taken cause line count (why line far)); output = d.2 };
      number = d.0;
      cause = long_line (λ line. IsWhy r.cause line count) before after pending filled m long no_lf (λ line far. subst (λ (c : Cause). IsWhy c line count) (sym d.1) (why line far));
    }
long_turn (ends.WriteFault f) cause before after pending filled rest count old new held now m long no_lf why d = cut_long 6 before after pending filled count old new held now m long no_lf (λ line far. not_taken cause line count (why line far)) d
long_turn ends.NoMemory cause before after pending filled rest count old new held now m long no_lf why d = cut_long 7 before after pending filled count old new held now m long no_lf (λ line far. not_taken cause line count (why line far)) d
long_turn ends.Done cause before after pending filled rest count old new held now m long no_lf why d = absurd d
long_turn (ends.ReadFault f) cause before after pending filled rest count old new held now m long no_lf why d = absurd d
