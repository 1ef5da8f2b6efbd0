-- Reading the head of a request, and what is behind it.
use Rattle.std.proofs.Common.{◌≡◌, ℕ, ◌≤◌, ◌<◌, inl, inr, true, false, List, [], ◌∷◌, ◌++◌, length, take, drop, map, Option, Some, None, refl, sym, ap, ◌∙◌, arith, length-append, length-take, cond, Bool, Ok, Err, Result, IfOk}
use Rattle.std.proofs.lemmas.List.{length-map, take-append-drop}
use Rattle.std.specs.Str.{str_to_ascii_lowercase}
use Rattle.httparse.specs.declared.spans.HeaderSpan.{HeaderSpan}
use Rattle.httparse.specs.declared.spans.RequestSpans.{RequestSpans}
use Rattle.httparse.specs.Spans.{header_bytes, name_and_value, AreFieldsAt, IsRequestAt}
use Rattle.httparse.specs.Grammar.{Field, RequestHead, print_request}
use Rattle.http_wire.specs.Lines.{Line}
use Rattle.http_wire.specs.declared.framing.Framing.{Framing}
use Rattle.http_wire.specs.HeadValue.{HeadValue}
use Rattle.http_wire.specs.Heads.{IsHead, line_of, lines_of, value_of, line_at, lines_at, head_at}
use Rattle.http_wire.specs.Framings.{framing_of}
use Rattle.http_bytes.specs.Forms.{IsHeadFound, IsHeadOpen, IsHeadBad}
use Rattle.http_bytes.specs.Moves.{Moves, MovesAll}
use Rattle.http_bytes.specs.Waits.{Waits, EndsSo}
use Rattle.http_bytes.specs.Breaks.{Breaks, NeverOrFull, OpenWithin}
use Rattle.http_wire.specs.Chunks.{TakesChunked}
use Rattle.http_wire.specs.Requests.{is_blank, head_fault, is_empty_body, IsStart, IsUnframed, BeginsBad, TakesHead, BreaksHead, TakesBytes, TakesBody, IsBodyOpen, IsBodyBad, BehindHead, TakesRequest, BreaksRequest}
use Rattle.http_bytes.specs.declared.fault.WireFault.{WireFault}
use Rattle.http_bytes.specs.declared.fault.WireFault.TheVariants.{Ended, BadHead, HeadTooLong, Truncated, Idle, ReadFault, WriteFault, NoMemory}
use Rattle.http_wire.specs.declared.framing.Framing.TheVariants.{Length, Chunked}
use Rattle.http_wire.specs.declared.body.Body.{Body}
use Rattle.http_wire.specs.declared.body.Body.TheVariants.{Bytes, TooLong}
use Rattle.http_wire.specs.declared.request.Request.{Request}
use Rattle.http_bytes.specs.declared.wait.Stop.{Stop}
use Rattle.http_bytes.specs.declared.wait.Stop.TheVariants as stop
use Rattle.http_bytes.proofs.Flow.{Takes-moved, Takes-then, Takes-none}
use Rattle.http_bytes.proofs.Breaking.{Breaks-behind, Breaks-as}

-- a line by its name and value
line_by : List ℕ × List ℕ → Line
line_by p = record { name = str_to_ascii_lowercase p.0; value = p.1 }

lines_at-map : (bytes : List ℕ) (spans : List HeaderSpan) → lines_at bytes spans ≡ map line_by (map (header_bytes bytes) spans)
unfolding line_by
lines_at-map bytes [] = refl
lines_at-map bytes (s ∷ spans) = ap (λ (t : List Line). line_at bytes s ∷ t) (lines_at-map bytes spans)

lines_of-map : (fields : List Field) → lines_of fields ≡ map line_by (map name_and_value fields)
unfolding line_by
lines_of-map [] = refl
lines_of-map (f ∷ fields) = ap (λ (t : List Line). line_of f ∷ t) (lines_of-map fields)

pub lines_are : (bytes : List ℕ) (spans : List HeaderSpan) (count : ℕ) (fields : List Field) → AreFieldsAt bytes spans count fields
    → lines_at bytes (take count spans) ≡ lines_of fields
lines_are bytes spans count fields h = lines_at-map bytes (take count spans) ∙ ap (map line_by) h ∙ sym (lines_of-map fields)

pub few_fields : (bytes : List ℕ) (spans : List HeaderSpan) (count : ℕ) (fields : List Field) → AreFieldsAt bytes spans count fields
    → length fields ≤ length spans
few_fields bytes spans count fields h =
    let same : length (map (header_bytes bytes) (take count spans)) ≡ length (map name_and_value fields) = ap length h in
    let left = length-map (take count spans) (header_bytes bytes) in
    let right = length-map fields name_and_value in
    omega (arith, same, left, right, length-take count spans)

pub head_is : (bytes : List ℕ) (spans : List HeaderSpan) (r : RequestSpans) (h : RequestHead) → IsRequestAt bytes spans r h → head_at bytes spans r ≡ value_of h true
head_is bytes spans r h k = let same = lines_are bytes spans r.headers h.fields k.fields in cc (k.method, k.path, k.version, same)

pub is_head : (bytes : List ℕ) (spans : List HeaderSpan) (r : RequestSpans) (h : RequestHead) → IsRequestAt bytes spans r h → length spans ≤ 100 → length bytes ≤ 65536 → IsHead h
is_head bytes spans r h k few short =
    let many = few_fields bytes spans r.headers h.fields k.fields in
    record {
      form = k.reads.0;
      short = omega (arith, short, ap length k.reads.1, length-append (print_request h) (drop r.len bytes));
      few = omega (arith, many, few);
    }

pub starts : (head : HeadValue) (framing : Framing) (bytes rest : List ℕ) (spans : List HeaderSpan) (r : RequestSpans) → IsHeadFound spans r bytes → length spans ≤ 100 → length bytes ≤ 65536
    → head ≡ head_at bytes spans r → framing_of head.lines ≡ Some framing → rest ≡ drop r.len bytes → IsStart head framing bytes rest
starts head framing bytes rest spans r k few short e f g =
    let same = e ∙ head_is bytes spans r k.1.0 k.1.1 in
    record {
      tree = k.1.0;
      is = is_head bytes spans r k.1.0 k.1.1 few short;
      framed = ap (λ (v : HeadValue). framing_of v.lines) (sym same) ∙ f;
      old_is = rw g k.1.1.reads.1;
      head_is = same;
    }

pub unframed : (head : HeadValue) (bytes : List ℕ) (spans : List HeaderSpan) (r : RequestSpans) → IsHeadFound spans r bytes → length spans ≤ 100 → length bytes ≤ 65536
    → head ≡ head_at bytes spans r → framing_of head.lines ≡ None → IsUnframed bytes
unframed head bytes spans r k few short e f =
    let same = e ∙ head_is bytes spans r k.1.0 k.1.1 in
    record {
      tree = k.1.0;
      is = is_head bytes spans r k.1.0 k.1.1 few short;
      unframed = ap (λ (v : HeadValue). framing_of v.lines) (sym same) ∙ f;
      behind = drop r.len bytes;
      seen_is = k.1.1.reads.1;
    }

-- ---- faults

pub blank_lf : (bytes : List ℕ) → is_blank (10 ∷ bytes) ≡ is_blank bytes
blank_lf [] = refl
blank_lf (b ∷ bytes) = refl

pub blank_crlf : (bytes : List ℕ) → is_blank (13 ∷ 10 ∷ bytes) ≡ is_blank bytes
blank_crlf bytes = refl

pub begins_break : (fault : WireFault) (a b : Option (List ℕ)) (x y : List ℕ) → Moves a b x y → BeginsBad fault y → BreaksHead fault a b x
begins_break BadHead a b x y h k = record { seen = y; moved = h; at = inr k }
begins_break NoMemory a b x y h k = tt
begins_break Ended a b x y h k = absurd k
begins_break HeadTooLong a b x y h k = absurd k
begins_break Truncated a b x y h k = absurd k
begins_break Idle a b x y h k = absurd k
begins_break ReadFault a b x y h k = absurd k
begins_break WriteFault a b x y h k = absurd k

end_breaks : (blank : Bool) (a b : Option (List ℕ)) (x y : List ℕ) → is_blank y ≡ blank → MovesAll a b x y → OpenWithin IsHeadOpen y → BreaksHead (cond blank Ended Truncated) a b x
end_breaks true a b x y e h k = record { seen = y; moved = h; at = (e, k.1) }
end_breaks false a b x y e h k = record { seen = y; moved = h; at = (k, e) }

pub stop_breaks : {A : Type 0} (s : Stop) (Found : A → Type 0) (a b : Option (List ℕ)) (x y : List ℕ) → Waits {A = A} (Err s) a b x y
    → EndsSo (Err s) Found (IsHeadOpen y) (IsHeadBad y) (length y) → BreaksHead (head_fault s y) a b x
stop_breaks stop.End Found a b x y h k = end_breaks (is_blank y) a b x y refl h k
stop_breaks stop.Full Found a b x y h k = record { seen = y; moved = h; at = k }
stop_breaks stop.Bad Found a b x y h k = record { seen = y; moved = h; at = inl k }
stop_breaks stop.Idle Found a b x y h k = record { seen = y; moved = h; at = k }
stop_breaks stop.Failed Found a b x y h k = record { seen = y; moved = h; at = k }
stop_breaks stop.NoMemory Found a b x y h k = tt

pub head_taken : (head : HeadValue) (framing : Framing) (a b : Option (List ℕ)) (x y z : List ℕ) → Moves a b x y → IsStart head framing y z → TakesHead a b x z head framing
head_taken head framing a b x y z h k =
    record { tree = k.tree; is = k.is; framed = k.framed; takes = Takes-moved a b x y z (print_request k.tree) h k.old_is; head_is = k.head_is }

-- ---- the body

pub bytes_taken : (a b : Option (List ℕ)) (x y z bytes : List ℕ) (size : ℕ) → Moves a b x y → size ≤ length y → bytes ≡ take size y → z ≡ drop size y → TakesBytes a b x z bytes size
bytes_taken a b x y z bytes size h inside e f =
    record {
      size_is = omega (arith, ap length e, length-take size y, inside);
      takes = Takes-moved a b x y z bytes h (rw (e, f) (sym (take-append-drop size y)));
    }

pub bytes_never_full : (size : ℕ) → size ≤ 4096 → (seen : List ℕ) → NeverOrFull (λ s. length s < size) (λ s. ⊥) seen → ⊥
bytes_never_full size small seen (inl bad) = bad
bytes_never_full size small seen (inr full) = omega (arith, full.open_front, full.size, small)

pub body_bytes : (a b : Option (List ℕ)) (x z bytes : List ℕ) (size : ℕ) → size ≤ 4096 → TakesBytes a b x z bytes size → TakesBody a b x z (Length size) (Bytes bytes)
body_bytes a b x z bytes size small h = record { text = bytes; is = (h.size_is, small, refl); takes = h.takes }

pub body_over : (a : Option (List ℕ)) (x : List ℕ) (size : ℕ) → 4096 < size → TakesBody a a x x (Length size) TooLong
body_over a x size over = record { text = []; is = (over, refl); takes = Takes-none a x }

pub body_chunked : (a b : Option (List ℕ)) (x z : List ℕ) (body : Body) → TakesChunked a b x z body → TakesBody a b x z Chunked body
body_chunked a b x z body h = record { text = h.text; is = h.is; takes = h.takes }

pub body_bytes_break : (fault : WireFault) (a b : Option (List ℕ)) (x : List ℕ) (size : ℕ) → size ≤ 4096 → Breaks fault a b x (λ seen. length seen < size) (λ seen. ⊥)
    → Breaks fault a b x (IsBodyOpen (Length size)) (IsBodyBad (Length size))
body_bytes_break fault a b x size small k = Breaks-as fault a b x (λ seen. length seen < size) (λ seen. ⊥) (IsBodyOpen (Length size)) (IsBodyBad (Length size)) (λ s p. (small, p)) (λ s p. p) k

-- ---- the whole

pub request_taken : (a b c : Option (List ℕ)) (x y z : List ℕ) (head : HeadValue) (framing : Framing) (body : Body) (r : Request) → TakesHead a b x y head framing → TakesBody b c y z framing body
    → r.body ≡ body → r.head ≡ record head { body_empty = is_empty_body body } → TakesRequest a c x z r
request_taken a b c x y z head framing body r h k e f =
    record {
      text = print_request h.tree ++ k.text;
      is = record {
        tree = h.tree;
        is = h.is;
        framing = framing;
        framed = h.framed;
        behind = k.text;
        body = rw e k.is;
        text_is = refl;
        head = rw e (f ∙ ap (λ (v : HeadValue). record v { body_empty = is_empty_body body }) h.head_is);
      };
      takes = Takes-then a b c x y z (print_request h.tree) k.text h.takes k.takes;
    }

pub head_break : (fault : WireFault) (a b : Option (List ℕ)) (x : List ℕ) → BreaksHead fault a b x → BreaksRequest fault a b x
head_break Ended a b x k = k
head_break Truncated a b x k = record { seen = k.seen; moved = k.moved; at = inl k.at }
head_break HeadTooLong a b x k = k
head_break BadHead a b x k = record { seen = k.seen; moved = k.moved; at = inl k.at }
head_break Idle a b x k = record { seen = k.seen; moved = k.moved; at = inl k.at }
head_break ReadFault a b x k = record { seen = k.seen; moved = k.moved; at = inl k.at }
head_break NoMemory a b x k = tt
head_break WriteFault a b x k = absurd k

behind_break : (fault : WireFault) (a b : Option (List ℕ)) (x : List ℕ) → Breaks fault a b x (BehindHead IsBodyOpen) (BehindHead IsBodyBad) → BreaksRequest fault a b x
behind_break Truncated a b x k = record { seen = k.seen; moved = k.moved; at = inr k.at }
behind_break BadHead a b x k = record { seen = k.seen; moved = k.moved; at = inr k.at }
behind_break Idle a b x k = record { seen = k.seen; moved = k.moved; at = inr k.at }
behind_break ReadFault a b x k = record { seen = k.seen; moved = k.moved; at = inr k.at }
behind_break NoMemory a b x k = tt
behind_break Ended a b x k = absurd k
behind_break HeadTooLong a b x k = absurd k
behind_break WriteFault a b x k = absurd k

pub body_break : (fault : WireFault) (a b c : Option (List ℕ)) (x y : List ℕ) (head : HeadValue) (framing : Framing) → TakesHead a b x y head framing
    → Breaks fault b c y (IsBodyOpen framing) (IsBodyBad framing) → BreaksRequest fault a c x
body_break fault a b c x y head framing h k =
    behind_break fault a c x (Breaks-behind fault a b c x y (print_request h.tree) (IsBodyOpen framing) (IsBodyBad framing) (BehindHead IsBodyOpen) (BehindHead IsBodyBad)
    (λ s p. record { tree = h.tree; is = h.is; framing = framing; framed = h.framed; behind = (s, refl, p) })
    (λ s p. record { tree = h.tree; is = h.is; framing = framing; framed = h.framed; behind = (s, refl, p) })
    h.takes k)

pub if_ok : {A E : Type 0} (r : Result A E) (P Q : A → Type 0) → ((v : A) → P v → Q v) → IfOk r P → IfOk r Q
if_ok (Ok v) P Q f h = f v h
if_ok (Err e) P Q f h = h
