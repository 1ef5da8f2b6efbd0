-- Texts that grow.
use Rattle.std.proofs.Common.{◌≡◌, ℕ, zero, suc, ◌+◌, ◌-◌, ◌<◌, ◌≤◌, List, [], ◌∷◌, ◌++◌, length, take, drop, refl, sym, ap, ◌∙◌, arith, append_assoc, get_or, length-append, length-drop, subst}
use Rattle.std.specs.Prelude.{All}
use Rattle.std.proofs.lemmas.List.{drop-append-le, map-append, take-append-le, take_more}
use Rattle.std.proofs.lemmas.List.Elements.{All-append}
use Rattle.httparse.specs.declared.spans.Span.{Span}
use Rattle.httparse.specs.declared.spans.HeaderSpan.{HeaderSpan}
use Rattle.httparse.specs.Spans.{span_bytes, IsHeaderWithin, IsWithin}
use Rattle.http_wire.specs.Heads.{line_at, lines_at}
use Rattle.http_wire.specs.Lines.{Line}
use Rattle.http_wire.specs.Texts.{Grows, line_in, lines_in}

span_stays : (x more : List ℕ) (s : Span) → IsWithin (length x) s → span_bytes (x ++ more) s ≡ span_bytes x s
span_stays x more s h =
    let ordered = h.0 in
    let inside = h.1 in
    let low : s.start ≤ length x = omega arith in
    let fits : s.end - s.start ≤ length (drop s.start x) = rw (length-drop s.start x) (omega arith) in
    ap (take (s.end - s.start)) (drop-append-le s.start x more low) ∙ take-append-le (s.end - s.start) (drop s.start x) more fits

line_stays : (x more : List ℕ) (s : HeaderSpan) → IsHeaderWithin (length x) s → line_in (x ++ more) s ≡ line_in x s
line_stays x more s h = rw (span_stays x more s.name h.0, span_stays x more s.value h.1) refl

lines_stay : (x more : List ℕ) (spans : List HeaderSpan) → All (IsHeaderWithin (length x)) spans → lines_in (x ++ more) spans ≡ lines_in x spans
lines_stay x more [] h = refl
lines_stay x more (s ∷ spans) h =
    ap (λ (l : Line). l ∷ lines_in (x ++ more) spans) (line_stays x more s (h 0 s (omega arith)))
    ∙ ap (λ (ls : List Line). line_in x s ∷ ls) (lines_stay x more spans (λ k d low. h (suc k) d (omega arith)))

within_stays : (x more : List ℕ) (s : HeaderSpan) → IsHeaderWithin (length x) s → IsHeaderWithin (length (x ++ more)) s
within_stays x more s h =
    let longer : length (x ++ more) ≡ length x + length more = length-append x more in
    let name = h.0.1 in
    let value = h.1.1 in
    ((h.0.0, omega arith), (h.1.0, omega arith))

-- a text that grew keeps its lines
pub kept_lines : (x y : List ℕ) (spans : List HeaderSpan) → Grows x y → All (IsHeaderWithin (length x)) spans → lines_in y spans ≡ lines_in x spans
kept_lines x y spans g h = rw g.1 (lines_stay x g.0 spans h)

pub kept_within : (x y : List ℕ) (spans : List HeaderSpan) → Grows x y → All (IsHeaderWithin (length x)) spans → All (IsHeaderWithin (length y)) spans
kept_within x y spans g h = λ k d low. rw g.1 (within_stays x g.0 _ (h k d low))

pub grows_on : (x y z : List ℕ) → Grows x y → Grows y z → Grows x z
grows_on x y z g h = (g.0 ++ h.0, rw (h.1, g.1) (append_assoc x g.0 h.0))

-- a line more
one_within : (n : ℕ) (at : HeaderSpan) → IsHeaderWithin n at → (k : ℕ) (d : HeaderSpan) → k < 1 → IsHeaderWithin n (get_or (at ∷ []) k d)
one_within n at h zero d low = h
one_within n at h (suc k) d low = absurd (let none : ⊥ = omega arith in none)

pub added_within : (x y : List ℕ) (spans new : List HeaderSpan) (at : HeaderSpan) → Grows x y → All (IsHeaderWithin (length x)) spans → IsHeaderWithin (length y) at →
    new ≡ spans ++ at ∷ [] → All (IsHeaderWithin (length y)) new
added_within x y spans new at g h here is =
    subst (All (IsHeaderWithin (length y))) (sym is) (All-append (IsHeaderWithin (length y)) spans _ (kept_within x y spans g h) (one_within (length y) at here))

pub added_lines : (x y : List ℕ) (spans new : List HeaderSpan) (at : HeaderSpan) (done : List Line) (l : Line) → Grows x y → All (IsHeaderWithin (length x)) spans → lines_in x spans ≡ done →
    line_in y at ≡ l → new ≡ spans ++ at ∷ [] → lines_in y new ≡ done ++ l ∷ []
added_lines x y spans new at done l g h before here is =
    ap (lines_in y) is ∙ map-append (line_in y) spans (at ∷ [])
    ∙ ap (λ (ls : List Line). ls ++ line_in y at ∷ []) (kept_lines x y spans g h ∙ before)
    ∙ ap (λ (z : Line). done ++ z ∷ []) here

pub lines_at_more : (bytes : List ℕ) (spans : List HeaderSpan) (i : ℕ) (d : HeaderSpan) → i < length spans →
    lines_at bytes (take (i + 1) spans) ≡ lines_at bytes (take i spans) ++ line_at bytes (get_or spans i d) ∷ []
lines_at_more bytes spans i d low = ap (lines_at bytes) (take_more spans i d low) ∙ map-append (line_at bytes) (take i spans) (get_or spans i d ∷ [])
