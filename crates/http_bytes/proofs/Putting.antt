-- What an outbox has done, call by call.
use Rattle.std.proofs.Common.{◌≡◌, ℕ, List, [], ◌++◌, Option, Some, None, Result, Ok, Err, refl, sym, ap, ◌∙◌, append_assoc, subst, true, false}
use Rattle.std.specs.Prelude.{MatchResult, is_some}
use Rattle.std.proofs.lemmas.List.{append-nil}
use Rattle.std.specs.Io.KnownBytes.{Appends}
use Rattle.http_bytes.specs.OutboxValue.{OutboxValue}
use Rattle.http_bytes.specs.Puts.{AppendsFront, WritesAll, IsPutBy, IsPut}
use Rattle.http_bytes.specs.declared.fault.WireFault.{WireFault}
use Rattle.std.proofs.Common.{◌≤◌}
use Rattle.http_bytes.specs.Puts.{IsBlamed}
use Rattle.http_bytes.specs.Causes.{CausedByWrites}
use Rattle.http_bytes.specs.declared.fault.WireFault.TheVariants.{Ended, BadHead, HeadTooLong, Truncated, Idle, ReadFault, WriteFault, NoMemory}
use Rattle.http_bytes.proofs.Flow.{Appends-then, Appends-none, Keeps-same}

sent_all : (o : Option WireFault) (start a b : Option (List ℕ)) (text held piece : List ℕ) → is_some o ≡ false → IsPutBy o start a text held → Appends a b (held ++ piece) → IsPutBy o start b (text ++ piece) []
sent_all None start a b text held piece e h k =
    record {
      sent = h.sent ++ (held ++ piece);
      appended = Appends-then start a b h.sent (held ++ piece) h.appended k;
      parts = ap (λ (t : List ℕ). t ++ piece) h.parts ∙ append_assoc h.sent held piece ∙ sym (append-nil (h.sent ++ (held ++ piece)));
    }
sent_all (Some f) start a b text held piece e h k = absurd (cc e)

cut_off : (o : Option WireFault) (start a b : Option (List ℕ)) (text held piece : List ℕ) → is_some o ≡ false → IsPutBy o start a text held → AppendsFront a b (held ++ piece) → AppendsFront start b (text ++ piece)
cut_off None start a b text held piece e h k =
    record {
      front = h.sent ++ k.front;
      rest = k.rest;
      parts = ap (λ (t : List ℕ). t ++ piece) h.parts ∙ append_assoc h.sent held piece ∙ ap (λ (t : List ℕ). h.sent ++ t) k.parts ∙ sym (append_assoc h.sent k.front k.rest);
      appended = Appends-then start a b h.sent k.front h.appended k.appended;
    }
cut_off (Some f) start a b text held piece e h k = absurd (cc e)

-- what waits and a piece were written, or a front of them
pub settles : {A : Type 0} (r : Result A WireFault) (start a b : Option (List ℕ)) (text piece : List ℕ) (box new : OutboxValue) → is_some box.fault ≡ false → IsPut start a text box
    → WritesAll r (box.text ++ piece) a b → MatchResult r (λ v. new ≡ record box { text = [] }) (λ f. new ≡ record { text = []; fault = Some f }) → IsPut start b (text ++ piece) new
settles (Ok v) start a b text piece box new e h k m = subst (IsPut start b (text ++ piece)) (sym m) (sent_all box.fault start a b text box.text piece e h k)
settles (Err f) start a b text piece box new e h k m = subst (IsPut start b (text ++ piece)) (sym m) (cut_off box.fault start a b text box.text piece e h k)

pub flushes : {A : Type 0} (r : Result A WireFault) (start a b : Option (List ℕ)) (text : List ℕ) (box new : OutboxValue) → is_some box.fault ≡ false → IsPut start a text box
    → WritesAll r box.text a b → MatchResult r (λ v. new ≡ record box { text = [] }) (λ f. new ≡ record { text = []; fault = Some f }) → IsPut start b text new
flushes r start a b text box new e h k m =
    let whole : WritesAll r (box.text ++ []) a b = rw append-nil k in
    let done = settles r start a b text [] box new e h whole m in
    rw append-nil at done

-- after a fault a piece is dropped
pub drops_piece : (o : Option WireFault) (start b : Option (List ℕ)) (text held piece : List ℕ) → is_some o ≡ true → IsPutBy o start b text held → IsPutBy o start b (text ++ piece) held
drops_piece None start b text held piece e h = absurd (cc e)
drops_piece (Some g) start b text held piece e h = record { front = h.front; rest = h.rest ++ piece; parts = ap (λ (t : List ℕ). t ++ piece) h.parts ∙ append_assoc h.front h.rest piece; appended = h.appended }

-- after a fault nothing waits
pub forgets : (o : Option WireFault) (start b : Option (List ℕ)) (text held : List ℕ) → is_some o ≡ true → IsPutBy o start b text held → IsPutBy o start b text []
forgets None start b text held e h = absurd (cc e)
forgets (Some g) start b text held e h = h

-- ---- the whole text

pub fresh : (a : Option (List ℕ)) → IsPut a a [] (record { text = []; fault = None })
fresh a = record { sent = []; appended = Appends-none a a (Keeps-same a); parts = refl }

all_by : (o : Option WireFault) (a b : Option (List ℕ)) (text held : List ℕ) → o ≡ None → held ≡ [] → IsPutBy o a b text held → Appends a b text
all_by None a b text held e f h =
    let whole : text ≡ h.sent = h.parts ∙ ap (λ (t : List ℕ). h.sent ++ t) f ∙ append-nil h.sent in
    rw whole h.appended
all_by (Some g) a b text held e f h = absurd (cc e)

pub all_written : (box : OutboxValue) (a b : Option (List ℕ)) (text : List ℕ) → box.fault ≡ None → box.text ≡ [] → IsPut a b text box → Appends a b text
all_written box a b text e f h = all_by box.fault a b text box.text e f h

front_by : (o : Option WireFault) (f : WireFault) (a b : Option (List ℕ)) (text held : List ℕ) → o ≡ Some f → IsPutBy o a b text held → AppendsFront a b text
front_by None f a b text held e h = absurd (cc e)
front_by (Some g) f a b text held e h = h

pub front_written : (box : OutboxValue) (f : WireFault) (a b : Option (List ℕ)) (text : List ℕ) → box.fault ≡ Some f → IsPut a b text box → AppendsFront a b text
front_written box f a b text e h = front_by box.fault f a b text box.text e h

pub uncaused : (box : OutboxValue) (before now lulls : ℕ) → box.fault ≡ None → IsBlamed before now lulls box → now ≡ before
uncaused box before now lulls e h = let plain = rw e at h in plain

recaused : (A : Type 0) (f : WireFault) (before now lulls : ℕ) → CausedByWrites {A = ℕ} (Err f) before now lulls → CausedByWrites {A = A} (Err f) before now lulls
recaused A Ended before now lulls h = h
recaused A BadHead before now lulls h = h
recaused A HeadTooLong before now lulls h = h
recaused A Truncated before now lulls h = h
recaused A Idle before now lulls h = h
recaused A ReadFault before now lulls h = h
recaused A WriteFault before now lulls h = h
recaused A NoMemory before now lulls h = h

pub caused : (A : Type 0) (box : OutboxValue) (f : WireFault) (before now lulls : ℕ) → box.fault ≡ Some f → IsBlamed before now lulls box → CausedByWrites {A = A} (Err f) before now lulls
caused A box f before now lulls e h = let plain = rw e at h in recaused A f before now lulls plain
