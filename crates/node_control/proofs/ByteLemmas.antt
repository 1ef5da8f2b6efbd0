-- The bytes of the input, one after the other, and its end.
use Rattle.std.proofs.Common.{◌≡◌, ℕ, false, ◌+◌, ◌<◌, List, [], ◌∷◌, ◌++◌, length, take, drop, get_or, add-one, refl, ap, sym, subst, ◌∙◌, append_assoc, inl, inr, Option, Some, None}
use Rattle.std.specs.Prelude.{codes, IfSome}
use Rattle.std.specs.Io.KnownBytes.{Consumes, IsAtEnd, Keeps}
use Rattle.std.proofs.lemmas.List.{append-nil, take-append-drop}
use Rattle.std.proofs.Math.Seq.{drop-cons}
use Rattle.push_model.specs.DeskViews.{DeskView}
use Rattle.autopush_main.specs.Lines.{NoLf, is_lf}
use Rattle.autopush_main.specs.Replay.{lines_of}
use Rattle.autopush_main.proofs.Flow.{Appends-none, Consumes-none, Consumes-then, Keeps-same}
use Rattle.node_control.specs.Commands.{command_of}
use Rattle.node_control.specs.Controls.{Controls, IsBroken, IsCut}
use Rattle.node_control.specs.Fronts.{front_of}
use Rattle.node_control.specs.Lines.{CutsLine, with_lf}
use Rattle.node_control.specs.Steps.{AnswersLine, CutOff, DoesLine, Goes, StopsAt, TakesBytes}
use Rattle.node_control.specs.declared.ends.ControlEnd.{ControlEnd}
use Rattle.node_control.specs.declared.ends.ControlEnd.TheVariants.{Done, ReadFault, WriteFault, NoMemory}
use Rattle.node_control.proofs.FrontLemmas.{front_none, front_on, front_says, stop_is}
use Rattle.node_control.proofs.LineLemmas.{answered_more, answered_still, lines_last, lines_whole, nothing_answered, same_cut, with_lf_more}

pub goes_none : (a : DeskView) (held : Option (List ℕ)) → Goes a a held held [] []
goes_none a held = record { lines = []; behind = []; split = refl; part = tt; kept = refl; answered = nothing_answered a held (Appends-none held held (Keeps-same held)) }

-- ---- one byte

no_lf_more : (behind : List ℕ) (b : ℕ) → NoLf behind → is_lf b ≡ false → NoLf (behind ++ b ∷ [])
no_lf_more [] b h e = (e, tt)
no_lf_more (c ∷ behind) b h e = (h.0, no_lf_more behind b h.1 e)

pub goes_on : (a b : DeskView) (held now : Option (List ℕ)) (read front next : List ℕ) (byte : ℕ) → Goes a b held now read front → is_lf byte ≡ false → next ≡ front_of (front ++ byte ∷ [])
    → Goes a b held now (read ++ byte ∷ []) next
goes_on a b held now read front next byte h e f = record {
  lines = h.lines;
  behind = h.behind ++ byte ∷ [];
  split = ap (λ (l : List ℕ). l ++ byte ∷ []) h.split ∙ append_assoc (with_lf h.lines) h.behind (byte ∷ []);
  part = no_lf_more h.behind byte h.part e;
  kept = f ∙ front_on front h.behind (byte ∷ []) h.kept;
  answered = h.answered;
}

module _ (a m : DeskView) (held mid : Option (List ℕ)) (read front : List ℕ) (h : Goes a m held mid read front) where
  says : command_of front ≡ command_of h.behind
  says = ap command_of h.kept ∙ front_says h.behind

  split_at : (byte : ℕ) → byte ≡ 10 → read ++ byte ∷ [] ≡ with_lf h.lines ++ (h.behind ++ 10 ∷ [])
  split_at byte e = rw e (ap (λ (l : List ℕ). l ++ 10 ∷ []) h.split ∙ append_assoc (with_lf h.lines) h.behind (10 ∷ []))

  is_stop : (b : DeskView) (now : Option (List ℕ)) → StopsAt front m b mid now → h.behind ≡ codes "stop"
  is_stop b now f = stop_is h.behind (sym says ∙ f.stops)

  ended_by : (b : DeskView) (now : Option (List ℕ)) (byte : ℕ) (next : List ℕ) → byte ≡ 10 → next ≡ [] → (end : Option ControlEnd) → DoesLine end front m b mid now
      → TakesBytes end a b held now (read ++ byte ∷ []) next
  ended_by b now byte next e f None g = record {
    lines = h.lines ++ h.behind ∷ [];
    behind = [];
    split = split_at byte e ∙ sym (with_lf_more h.lines h.behind []);
    part = tt;
    kept = f;
    answered = answered_more h.lines h.behind front a m b held mid now h.part says h.answered g;
  }
  ended_by b now byte next e f (Some Done) g = record {
    lines = h.lines;
    more = [];
    split = split_at byte e ∙ ap (λ (l : List ℕ). with_lf h.lines ++ (l ++ 10 ∷ [])) (is_stop b now g);
    answered = answered_still h.lines front a m b held mid now h.answered g;
  }
  ended_by b now byte next e f (Some (ReadFault k)) g = g
  ended_by b now byte next e f (Some (WriteFault k)) g = record {
    lines = h.lines;
    line = h.behind;
    more = [];
    split = split_at byte e;
    mid = mid;
    between = m;
    answered = h.answered;
    cuts = same_cut h.behind front m b mid now says g;
  }
  ended_by b now byte next e f (Some NoMemory) g = record {
    lines = h.lines;
    line = h.behind;
    more = [];
    split = split_at byte e;
    mid = mid;
    between = m;
    answered = h.answered;
    cuts = same_cut h.behind front m b mid now says g;
  }

pub line_ended : (a m b : DeskView) (held mid now : Option (List ℕ)) (read front : List ℕ) (byte : ℕ) (next : List ℕ) (end : Option ControlEnd) → Goes a m held mid read front
    → byte ≡ 10 → next ≡ [] → DoesLine end front m b mid now → TakesBytes end a b held now (read ++ byte ∷ []) next
line_ended a m b held mid now read front byte next end h e f g = ended_by a m held mid read front h b now byte next e f end g

-- ---- bytes that were read behind an end

grown : (front line more rest read : List ℕ) → read ≡ front ++ (line ++ 10 ∷ more) → read ++ rest ≡ front ++ (line ++ 10 ∷ (more ++ rest))
grown front line more rest read e =
    ap (λ (l : List ℕ). l ++ rest) e ∙ (append_assoc front (line ++ 10 ∷ more) rest ∙ ap (λ (l : List ℕ). front ++ l) (append_assoc line (10 ∷ more) rest))

cut_more : (a b : DeskView) (held now : Option (List ℕ)) (read rest : List ℕ) → CutOff a b held now read → CutOff a b held now (read ++ rest)
cut_more a b held now read rest h = record {
  lines = h.lines;
  line = h.line;
  more = h.more ++ rest;
  split = grown (with_lf h.lines) h.line h.more rest read h.split;
  mid = h.mid;
  between = h.between;
  answered = h.answered;
  cuts = h.cuts;
}

pub takes_more : (end : ControlEnd) (a b : DeskView) (held now : Option (List ℕ)) (read rest all front next : List ℕ) → all ≡ read ++ rest → TakesBytes (Some end) a b held now read front
    → TakesBytes (Some end) a b held now all next
takes_more Done a b held now read rest all front next e h =
    rw e (record { lines = h.lines; more = h.more ++ rest; split = grown (with_lf h.lines) (codes "stop") h.more rest read h.split; answered = h.answered })
takes_more (ReadFault k) a b held now read rest all front next e h = h
takes_more (WriteFault k) a b held now read rest all front next e h = rw e (cut_more a b held now read rest h)
takes_more NoMemory a b held now read rest all front next e h = rw e (cut_more a b held now read rest h)

-- ---- how it ends

cut_there : (before after held now : Option (List ℕ)) (a b : DeskView) (read : List ℕ) → Consumes before after read → CutOff a b held now read → IsCut before after held now a b
cut_there before after held now a b read c h = record {
  lines = h.lines;
  line = h.line;
  behind = h.line ++ 10 ∷ h.more;
  input = subst (λ (l : List ℕ). Consumes before after l) h.split c;
  next = inl (h.more, refl);
  mid = h.mid;
  between = h.between;
  answered = h.answered;
  cuts = h.cuts;
}

pub controls_there : (end : ControlEnd) (before after held now : Option (List ℕ)) (a b : DeskView) (read front : List ℕ) → Consumes before after read → TakesBytes (Some end) a b held now read front
    → Controls end before after held now a b
controls_there Done before after held now a b read front c h =
    record { lines = h.lines; read = read; input = c; answered = h.answered; why = inr (codes "stop" ++ 10 ∷ h.more, h.split, inl (h.more, refl)) }
controls_there (ReadFault k) before after held now a b read front c h = absurd h
controls_there (WriteFault k) before after held now a b read front c h = cut_there before after held now a b read c h
controls_there NoMemory before after held now a b read front c h = cut_there before after held now a b read c h

pub broken_there : (before after held now : Option (List ℕ)) (a b : DeskView) (read front : List ℕ) → Consumes before after read → Goes a b held now read front → IsBroken before after held now a b
broken_there before after held now a b read front c h =
    record { lines = h.lines; behind = h.behind; input = subst (λ (l : List ℕ). Consumes before after l) h.split c; part = h.part; answered = h.answered }

-- ---- the end of the input

module _ (before after held mid : Option (List ℕ)) (a m : DeskView) (read front : List ℕ) (h : Goes a m held mid read front) (c : Consumes before after read) (w : IfSome before (λ all. all ≡ read)) where
  none_behind : front ≡ [] → h.behind ≡ []
  none_behind e = front_none h.behind (sym h.kept ∙ e)

  pub none_left : front ≡ [] → Controls Done before after held mid a m
  none_left e = record {
    lines = h.lines;
    read = read;
    input = c;
    answered = h.answered;
    why = inl (rw (h.split, none_behind e) (lines_whole h.lines h.answered.whole), w);
  }

  whole_split : IfSome before (λ all. all ≡ with_lf h.lines ++ h.behind)
  whole_split = subst (λ (l : List ℕ). IfSome before (λ all. all ≡ l)) h.split w

  last_says : command_of front ≡ command_of h.behind
  last_says = ap command_of h.kept ∙ front_says h.behind

  last_cut : (b : DeskView) (now : Option (List ℕ)) → CutsLine front m b mid now → IsCut before after held now a b
  last_cut b now g = record {
    lines = h.lines;
    line = h.behind;
    behind = h.behind;
    input = subst (λ (l : List ℕ). Consumes before after l) h.split c;
    next = inr (refl, whole_split);
    mid = mid;
    between = m;
    answered = h.answered;
    cuts = same_cut h.behind front m b mid now last_says g;
  }

  pub last_ended : (b : DeskView) (now : Option (List ℕ)) (end : ControlEnd) → DoesLine (Some end) front m b mid now → Controls end before after held now a b
  last_ended b now Done g = record {
    lines = h.lines;
    read = read;
    input = c;
    answered = answered_still h.lines front a m b held mid now h.answered g;
    why = inr (h.behind, h.split, inr (stop_is h.behind (sym last_says ∙ g.stops), w));
  }
  last_ended b now (ReadFault k) g = absurd g
  last_ended b now (WriteFault k) g = last_cut b now g
  last_ended b now NoMemory g = last_cut b now g

  lines_read : (behind : List ℕ) → h.behind ≡ behind → (behind ≡ [] → ⊥) → lines_of read ≡ h.lines ++ h.behind ∷ []
  lines_read [] e some = absurd (some refl)
  lines_read (b ∷ behind) e some = rw (h.split, e) (lines_last h.lines b behind h.answered.whole (subst NoLf e h.part))

  pub last_answered : (b : DeskView) (now : Option (List ℕ)) → (front ≡ [] → ⊥) → AnswersLine front m b mid now → Controls Done before after held now a b
  last_answered b now some g = record {
    lines = h.lines ++ h.behind ∷ [];
    read = read;
    input = c;
    answered = answered_more h.lines h.behind front a m b held mid now h.part last_says h.answered g;
    why = inl (lines_read h.behind refl (λ e. some (h.kept ∙ ap front_of e)), w);
  }

-- ---- while it runs

pub record Running (before after held now : Option (List ℕ)) (a b : DeskView) (front : List ℕ) : Type 0 where
  pub read : List ℕ
  pub input : Consumes before after read
  pub goes : Goes a b held now read front

pub running_none : (before held : Option (List ℕ)) (a : DeskView) (front : List ℕ) → front ≡ [] → Running before before held held a a front
running_none before held a front e =
    record { read = []; input = Consumes-none before before (Keeps-same before); goes = subst (λ (l : List ℕ). Goes a a held held [] l) (sym e) (goes_none a held) }

pub running_on : (before mid after held there now : Option (List ℕ)) (a m b : DeskView) (front next bytes : List ℕ) (r : Running before mid held there a m front) → Consumes mid after bytes
    → ((c : DeskView) (h : Option (List ℕ)) (read : List ℕ) → Goes c m h there read front → Goes c b h now (read ++ bytes) next) → Running before after held now a b next
running_on before mid after held there now a m b front next bytes r c f =
    record { read = r.read ++ bytes; input = Consumes-then before mid after r.read bytes r.input c; goes = f a held r.read r.goes }

pub running_ends : (end : ControlEnd) (before mid after held there now : Option (List ℕ)) (a m b : DeskView) (front next bytes : List ℕ) (r : Running before mid held there a m front) → Consumes mid after bytes
    → ((c : DeskView) (h : Option (List ℕ)) (read : List ℕ) → Goes c m h there read front → TakesBytes (Some end) c b h now (read ++ bytes) next) → Controls end before after held now a b
running_ends end before mid after held there now a m b front next bytes r c f =
    controls_there end before after held now a b (r.read ++ bytes) next (Consumes-then before mid after r.read bytes r.input c) (f a held r.read r.goes)

-- where nothing more is read, all that there was is read
all_read : (before mid after : Option (List ℕ)) (read : List ℕ) → Consumes before mid read → Keeps mid after → IsAtEnd mid → Consumes before after read × IfSome before (λ all. all ≡ read)
all_read None mid after read c k e = (tt, tt)
all_read (Some all) None after read c k e = absurd c
all_read (Some all) (Some rest) None read c k e = absurd k
all_read (Some all) (Some rest) (Some left) read c k e =
    (c ∙ ap (λ (l : List ℕ). read ++ l) (sym k), c ∙ (ap (λ (l : List ℕ). read ++ l) e ∙ append-nil read))

pub running_over : (end : ControlEnd) (before mid after held there now : Option (List ℕ)) (a m b : DeskView) (front : List ℕ) (r : Running before mid held there a m front) → Keeps mid after → IsAtEnd mid
    → ((x y h : Option (List ℕ)) (c : DeskView) (read : List ℕ) → Goes c m h there read front → Consumes x y read → IfSome x (λ all. all ≡ read) → Controls end x y h now c b) → Controls end before after held now a b
running_over end before mid after held there now a m b front r k e f =
    let w = all_read before mid after r.read r.input k e in
    f before after held a r.read r.goes w.0 w.1

pub running_broken : (before mid after held now : Option (List ℕ)) (a b : DeskView) (front : List ℕ) → Running before mid held now a b front → Keeps mid after → IsBroken before after held now a b
running_broken before mid after held now a b front r k =
    broken_there before after held now a b r.read front (subst (λ (l : List ℕ). Consumes before after l) (append-nil r.read) (Consumes-then before mid after r.read [] r.input (Consumes-none mid after k))) r.goes

-- the bytes up to that place, that byte, and the others
pub cut_at : (read bytes : List ℕ) (i b : ℕ) → i < length bytes → b ≡ get_or bytes i 0 → read ++ bytes ≡ ((read ++ take i bytes) ++ b ∷ []) ++ drop (i + 1) bytes
cut_at read bytes i b low e =
    let here : drop i bytes ≡ b ∷ drop (i + 1) bytes = drop-cons bytes i 0 low ∙ rw (add-one, ← e) refl in
    ap (λ (l : List ℕ). read ++ l) (sym (take-append-drop i bytes) ∙ ap (λ (l : List ℕ). take i bytes ++ l) here)
    ∙ sym (append_assoc (read ++ take i bytes) (b ∷ []) (drop (i + 1) bytes) ∙ append_assoc read (take i bytes) (b ∷ drop (i + 1) bytes))
