-- A request that is read, and its answer.
use Rattle.std.proofs.Common.{◌≡◌, ◌⊎◌, ℕ, ◌≤◌, Bool, inl, inr, List, [], ◌++◌, refl, sym, ap, subst, ◌∙◌, arith}
use Rattle.std.specs.Prelude.{Option, Some, None, Result, Ok, Err, IfOk, IfSome, is_some}
use Rattle.std.specs.Io.KnownBytes.{Appends, Consumes, Keeps}
use Rattle.http_bytes.specs.declared.fault.WireFault.{WireFault}
use Rattle.http_bytes.specs.declared.fault.WireFault.TheVariants.{Ended, BadHead, HeadTooLong, Truncated, Idle, ReadFault, WriteFault, NoMemory}
use Rattle.http_bytes.specs.Breaks.{Stops, StopsAtEnd}
use Rattle.http_bytes.specs.Causes.{CausedBy, CausedByWrites}
use Rattle.http_bytes.specs.Moves.{Takes}
use Rattle.http_bytes.specs.Puts.{AppendsFront, WritesAll}
use Rattle.http_bytes.proofs.Breaking.{caused_on}
use Rattle.http_bytes.proofs.Flow.{Appends-none, Appends-then, Consumes-none, Consumes-then, Keeps-then}
use Rattle.http_wire.specs.declared.request.Request.{Request}
use Rattle.http_wire.specs.Requests.{BreaksRequest, TakesRequest}
use Rattle.http_front.specs.declared.ends.HttpEnd.{HttpEnd}
use Rattle.http_front.specs.declared.outcome.Outcome.{Outcome}
use Rattle.http_front.specs.Comings.{Comes}
use Rattle.http_front.specs.declared.refusal.Refusal.{Refusal}
use Rattle.http_front.specs.Rows.{memory_text, refusal_text}
use Rattle.http_front.specs.Exchanges.{Tells, TellsRefusal, end_after, request_end}
use Rattle.http_front.specs.Served.{FaultTold, IsOfWrite, Scene}
use Rattle.http_front.specs.Steps.{Answers, Broken, Exchanged, Nexts}

-- ---- where what is left, or written, is kept before or after

consumes_kept : (b c d : Option (List ℕ)) (x : List ℕ) → Consumes b c x → Keeps c d → Consumes b d x
consumes_kept None c d x h k = tt
consumes_kept (Some p) None d x h k = absurd h
consumes_kept (Some p) (Some q) None x h k = absurd k
consumes_kept (Some p) (Some q) (Some r) x h k = h ∙ ap (λ z. x ++ z) (sym k)

consumes_round : (a b c d : Option (List ℕ)) (x : List ℕ) → Keeps a b → Consumes b c x → Keeps c d → Consumes a d x
consumes_round a b c d x k h l = Consumes-then a b d [] x (Consumes-none a b k) (consumes_kept b c d x h l)

takes_round : (a b c d : Option (List ℕ)) (x y t : List ℕ) → Keeps a b → Takes b c x y t → Keeps c d → Takes a d x y t
takes_round a b c d x y t k h l = record { read = h.read; input = consumes_round a b c d h.read k h.input l; joined = h.joined }

whole_kept : (a b : Option (List ℕ)) (x : List ℕ) → Keeps a b → IfSome b (λ all. all ≡ x) → IfSome a (λ all. all ≡ x)
whole_kept None b x k h = tt
whole_kept (Some p) None x k h = absurd k
whole_kept (Some p) (Some q) x k h = sym k ∙ h

stops_round : (a b c d : Option (List ℕ)) (x : List ℕ) (P : List ℕ → Type 0) → Keeps a b → Stops b c x P → Keeps c d → Stops a d x P
stops_round a b c d x P k h l = record {
  seen = h.seen;
  moved = record { read = h.moved.read; input = consumes_round a b c d h.moved.read k h.moved.input l; joined = h.moved.joined };
  at = h.at;
}

ends_round : (a b c d : Option (List ℕ)) (x : List ℕ) (P : List ℕ → Type 0) → Keeps a b → StopsAtEnd b c x P → Keeps c d → StopsAtEnd a d x P
ends_round a b c d x P k h l = record {
  seen = h.seen;
  moved = record {
    read = h.moved.read;
    input = consumes_round a b c d h.moved.read k h.moved.input l;
    joined = h.moved.joined;
    whole = whole_kept a b h.moved.read k h.moved.whole;
  };
  at = h.at;
}

breaks_round : (why : WireFault) (a b c d : Option (List ℕ)) (x : List ℕ) → Keeps a b → BreaksRequest why b c x → Keeps c d → BreaksRequest why a d x
breaks_round Ended a b c d x k h l = ends_round a b c d x _ k h l
breaks_round Truncated a b c d x k h l = ends_round a b c d x _ k h l
breaks_round HeadTooLong a b c d x k h l = stops_round a b c d x _ k h l
breaks_round BadHead a b c d x k h l = stops_round a b c d x _ k h l
breaks_round Idle a b c d x k h l = stops_round a b c d x _ k h l
breaks_round ReadFault a b c d x k h l = stops_round a b c d x _ k h l
breaks_round NoMemory a b c d x k h l = tt
breaks_round WriteFault a b c d x k h l = absurd h

appends_behind : (a b c : Option (List ℕ)) (x : List ℕ) → Keeps a b → Appends b c x → Appends a c x
appends_behind a b c x k h = Appends-then a b c [] x (Appends-none a b k) h

front_behind : (a b c : Option (List ℕ)) (x : List ℕ) → Keeps a b → AppendsFront b c x → AppendsFront a c x
front_behind a b c x k h = record { front = h.front; rest = h.rest; parts = h.parts; appended = appends_behind a b c h.front k h.appended }

writes_behind : {A : Type 0} (r : Result A WireFault) (a b c : Option (List ℕ)) (x : List ℕ) → Keeps a b → WritesAll r x b c → WritesAll r x a c
writes_behind (Ok u) a b c x k h = appends_behind a b c x k h
writes_behind (Err f) a b c x k h = front_behind a b c x k h

-- ---- an answer

of_write : (f : WireFault) (before now lulls : ℕ) → CausedByWrites {A = Unit {0}} (Err f) before now lulls → IsOfWrite f
of_write Idle before now lulls h = tt
of_write WriteFault before now lulls h = tt
of_write NoMemory before now lulls h = tt
of_write Ended before now lulls h = absurd h
of_write BadHead before now lulls h = absurd h
of_write HeadTooLong before now lulls h = absurd h
of_write Truncated before now lulls h = absurd h
of_write ReadFault before now lulls h = absurd h

module _ (moment : Option ℕ) (count : ℕ) (r : Request) (a b : Scene) (wish end : Option HttpEnd) (outcome : Outcome) (close : Bool) (w : wish ≡ request_end r)
    (c : Comes moment a.number b.number r outcome a.desks b.desks a.losses b.losses) (e : end ≡ end_after wish count b.number) (s : close ≡ is_some end) (kept : Keeps a.left b.left) where
  is_end : end ≡ end_after (request_end r) count b.number
  is_end = e ∙ ap (λ z. end_after z count b.number) w

  says_close : close ≡ is_some (end_after (request_end r) count b.number)
  says_close = s ∙ ap is_some is_end

  pub answered_ok : (told : Result (Unit {0}) WireFault) (u : Unit {0}) → told ≡ Ok u → ((text : List ℕ) × Tells outcome close text × WritesAll told text a.written b.written) →
      Answers moment count r (Ok end) a b
  answered_ok told u is t = record {
    outcome = outcome;
    entries = c.entries;
    reply = t.0;
    comes = c.are;
    calls = c.calls;
    mail = c.mail;
    losses = c.losses;
    number = c.number;
    tells = subst (λ z. Tells outcome z t.0) says_close t.1;
    kept = kept;
    written = subst (λ z. WritesAll z t.0 a.written b.written) is t.2;
    end = is_end;
    of_write = tt;
  }

  pub answered_err : (told : Result (Unit {0}) WireFault) (f : WireFault) (before now lulls : ℕ) → told ≡ Err f → CausedByWrites told before now lulls →
      ((text : List ℕ) × Tells outcome close text × WritesAll told text a.written b.written) → Answers moment count r (Err f) a b
  answered_err told f before now lulls is cause t = record {
    outcome = outcome;
    entries = c.entries;
    reply = t.0;
    comes = c.are;
    calls = c.calls;
    mail = c.mail;
    losses = c.losses;
    number = c.number;
    tells = subst (λ z. Tells outcome z t.0) says_close t.1;
    kept = kept;
    written = subst (λ z. WritesAll z t.0 a.written b.written) is t.2;
    end = tt;
    of_write = of_write f before now lulls (subst (λ z. CausedByWrites z before now lulls) is cause);
  }

-- ---- a request, and its answer

pub exchanged : (moment : Option ℕ) (count : ℕ) (r : Request) (result : Result (Option HttpEnd) WireFault) (old new : List ℕ) (a b : Scene) (left1 left2 written1 written2 : Option (List ℕ)) →
    Keeps a.left left1 → TakesRequest left1 left2 old new r → Keeps a.written written1 → Keeps written1 written2 →
    Answers moment count r result (record a { left = left2; written = written2 }) b → Exchanged moment count result old new a b
exchanged moment count r result old new a b left1 left2 written1 written2 k t l m h = record {
  exchange = record { text = t.text; request = r; outcome = h.outcome; entries = h.entries; reply = h.reply };
  takes = takes_round a.left left1 left2 b.left old new t.text k t.takes h.kept;
  answered = record { is = t.is; comes = h.comes; tells = subst (λ z. Tells h.outcome (is_some (end_after (request_end r) count z)) h.reply) h.number h.tells };
  calls = h.calls;
  mail = h.mail;
  losses = h.losses;
  number = h.number;
  written = writes_behind result a.written written2 b.written h.reply (Keeps-then a.written written1 written2 l m) h.written;
  end = subst (λ z. IfOk result (λ e. e ≡ end_after (request_end r) count z)) h.number h.end;
  of_write = h.of_write;
}

pub next_exchanged : (moment : Option ℕ) (count : ℕ) (result : Result (Option HttpEnd) WireFault) (old new : List ℕ) (a b : Scene) → Exchanged moment count result old new a b →
    Nexts moment count result old new a b
next_exchanged moment count (Ok e) old new a b h = h
next_exchanged moment count (Err f) old new a b h = inl h

told_behind : (why fault : WireFault) (a b c : Option (List ℕ)) → Keeps a b → FaultTold why fault b c → FaultTold why fault a c
told_behind BadHead fault a b c k (inl h) = inl (h.0, appends_behind a b c _ k h.1)
told_behind BadHead fault a b c k (inr h) = inr (h.0, front_behind a b c _ k h.1)
told_behind HeadTooLong fault a b c k (inl h) = inl (h.0, appends_behind a b c _ k h.1)
told_behind HeadTooLong fault a b c k (inr h) = inr (h.0, front_behind a b c _ k h.1)
told_behind why fault a b c k h = (h.0, Keeps-then a b c k h.1)

-- the same where no request was read
pub broken : (why fault : WireFault) (old : List ℕ) (a : Scene) (left1 left2 left3 written1 written2 written3 : Option (List ℕ)) →
    Keeps a.left left1 → BreaksRequest why left1 left2 old → Keeps left2 left3 → Keeps a.written written1 → Keeps written1 written2 → FaultTold why fault written2 written3 →
    Broken fault old a (record a { left = left3; written = written3 })
broken why fault old a left1 left2 left3 written1 written2 written3 k h l m n t = record {
  desks = refl;
  losses = refl;
  number = refl;
  why = why;
  breaks = breaks_round why a.left left1 left2 left3 old k h l;
  told = told_behind why fault a.written written2 written3 (Keeps-then a.written written1 written2 m n) t;
}

-- ---- causes

pub caused_by_writes : {A : Type 0} (r : Result A WireFault) (before now lulls : ℕ) → CausedByWrites r before now lulls → CausedBy r before now lulls
caused_by_writes (Ok v) before now lulls h = omega arith
caused_by_writes (Err Ended) before now lulls h = absurd h
caused_by_writes (Err BadHead) before now lulls h = absurd h
caused_by_writes (Err HeadTooLong) before now lulls h = absurd h
caused_by_writes (Err Truncated) before now lulls h = absurd h
caused_by_writes (Err Idle) before now lulls h = (omega (arith, h.0), h.1)
caused_by_writes (Err ReadFault) before now lulls h = absurd h
caused_by_writes (Err WriteFault) before now lulls h = h
caused_by_writes (Err NoMemory) before now lulls h = omega arith

-- a request was read, and then its answer written
pub caused_answer : {A : Type 0} (r : Result A WireFault) (f0 f1 f2 f3 lulls : ℕ) → f1 ≡ f0 → f1 ≤ f2 → CausedByWrites r f2 f3 lulls → CausedBy r f0 f3 lulls
caused_answer r f0 f1 f2 f3 lulls e le h = caused_on r f0 f2 f3 lulls (omega (arith, e, le)) (caused_by_writes r f2 f3 lulls h)

-- ---- a refusal

pub told_refusal : {A : Type 0} (told : Result A WireFault) (refusal row : Refusal) (close : Bool) (a b : Option (List ℕ)) → refusal ≡ row →
    WritesAll told (refusal_text refusal close) a b ⊎ WritesAll told (memory_text close) a b → (text : List ℕ) × TellsRefusal row close text × WritesAll told text a b
told_refusal told refusal row close a b e (inl h) = (refusal_text row close, inl refl, subst (λ z. WritesAll told (refusal_text z close) a b) e h)
told_refusal told refusal row close a b e (inr h) = (memory_text close, inr refl, h)
