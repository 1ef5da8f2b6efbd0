-- No request begins another.
use Rattle.std.proofs.Common.{◌≡◌, ℕ, ◌+◌, ◌≤◌, ◌<◌, ◌⊎◌, inl, inr, List, [], ◌∷◌, ◌++◌, length, take, refl, sym, ap, ◌∙◌, append_assoc, length-append, arith, All, Some, subst}
use Rattle.std.proofs.lemmas.List.{take_at, append_cancel_left}
use Rattle.std.proofs.lemmas.List.Elements.{All-head, All-tail}
use Rattle.httparse.specs.Ascii.{crlf_bytes}
use Rattle.httparse.specs.Grammar.{ChunkLine, IsChunkLine, print_chunk_line, chunk_size, print_section, print_request, RequestHead}
use Rattle.httparse.proofs.GrammarLemmas.{request_unique, section_unique}
use Rattle.httparse.proofs.ChunkLemmas.{chunk_line_unique}
use Rattle.http_wire.specs.Heads.{lines_of, value_of}
use Rattle.http_wire.specs.Framings.{framing_of}
use Rattle.http_wire.specs.Chunks.{Chunk, IsChunk, print_chunks, data_of, IsChunkedText, IsOverlongText}
use Rattle.http_wire.specs.Requests.{IsBody, IsRequest, is_empty_body}
use Rattle.http_wire.specs.Lines.{Line}
use Rattle.http_wire.specs.declared.framing.Framing.{Framing}
use Rattle.http_wire.specs.declared.framing.Framing.TheVariants.{Length, Chunked}
use Rattle.http_wire.specs.declared.body.Body.{Body}
use Rattle.http_wire.specs.declared.body.Body.TheVariants.{Bytes, TooLong}
use Rattle.http_wire.specs.declared.request.Request.{Request}

pub fronts : (p q x y : List ℕ) → length p ≡ length q → p ++ x ≡ q ++ y → (p ≡ q) × (x ≡ y)
fronts p q x y n e =
    let same : p ≡ q = sym (take_at p x (length q) n) ∙ ap (take (length q)) e ∙ take_at q y (length q) refl in
    (same, append_cancel_left p x y (e ∙ ap (λ (t : List ℕ). t ++ y) (sym same)))

regroup : (l c r p t : List ℕ) → ((l ++ (c ++ r)) ++ p) ++ t ≡ l ++ (c ++ (r ++ (p ++ t)))
regroup l c r p t = simp append_assoc

pub first_chunk : (c : Chunk) (cs : List Chunk) (t : List ℕ) → print_chunks (c ∷ cs) ++ t ≡ print_chunk_line c.line ++ (c.content ++ (crlf_bytes ++ (print_chunks cs ++ t)))
first_chunk c cs t = regroup (print_chunk_line c.line) c.content crlf_bytes (print_chunks cs) t

-- a line that ends the chunks, after so many bytes
abbrev pub IsEnd : ℕ → ℕ → Type 0
IsEnd used size = (size ≡ 0) ⊎ (4096 < used + size)

pub no_end : (used size content more : ℕ) → 0 < content → used + (content + more) ≤ 4096 → size ≡ content → IsEnd (used + 0) size → ⊥
no_end used size content more some room e (inl zero) = omega arith
no_end used size content more some room e (inr over) = omega arith

pub one_line : (l m : ChunkLine) (x y : List ℕ) → IsChunkLine l → IsChunkLine m → print_chunk_line l ++ x ≡ print_chunk_line m ++ y → (l ≡ m) × (x ≡ y)
one_line l m x y h k e = chunk_line_unique (print_chunk_line m ++ y) l m x y (h, sym e) (k, refl)

pub same_chunk : (c d : Chunk) → c.line ≡ d.line → c.content ≡ d.content → c ≡ d
same_chunk c d p q = λ i. record { line = p i; content = q i }

pub same_cons : (c d : Chunk) (cs ds : List Chunk) → c ≡ d → cs ≡ ds → c ∷ cs ≡ d ∷ ds
same_cons c d cs ds p q = λ i. p i ∷ q i

pub walk : (cs ds : List Chunk) (used : ℕ) (l m : ChunkLine) (x y : List ℕ) → All IsChunk cs → All IsChunk ds
    → used + length (data_of cs) ≤ 4096 → used + length (data_of ds) ≤ 4096 → IsChunkLine l → IsChunkLine m
    → IsEnd (used + length (data_of cs)) (chunk_size l) → IsEnd (used + length (data_of ds)) (chunk_size m)
    → print_chunks cs ++ (print_chunk_line l ++ x) ≡ print_chunks ds ++ (print_chunk_line m ++ y) → (cs ≡ ds) × (l ≡ m) × (x ≡ y)
walk [] [] used l m x y h k a b il im ends fends e = let same = one_line l m x y il im e in (refl, same.0, same.1)
walk (c ∷ cs) [] used l m x y h k a b il im ends fends e =
    let chunk = All-head IsChunk c cs h in
    let same = one_line c.line m _ y chunk.line.form im (sym (first_chunk c cs (print_chunk_line l ++ x)) ∙ e) in
    let size : chunk_size m ≡ length c.content = ap chunk_size (sym same.0) ∙ chunk.line.says in
    let room : used + (length c.content + length (data_of cs)) ≤ 4096 = omega (arith, a, length-append c.content (data_of cs)) in
    absurd (no_end used (chunk_size m) (length c.content) (length (data_of cs)) chunk.some room size fends)
walk [] (d ∷ ds) used l m x y h k a b il im ends fends e =
    let chunk = All-head IsChunk d ds k in
    let same = one_line d.line l _ x chunk.line.form il (sym (first_chunk d ds (print_chunk_line m ++ y)) ∙ sym e) in
    let size : chunk_size l ≡ length d.content = ap chunk_size (sym same.0) ∙ chunk.line.says in
    let room : used + (length d.content + length (data_of ds)) ≤ 4096 = omega (arith, b, length-append d.content (data_of ds)) in
    absurd (no_end used (chunk_size l) (length d.content) (length (data_of ds)) chunk.some room size ends)
walk (c ∷ cs) (d ∷ ds) used l m x y h k a b il im ends fends e =
    let one = All-head IsChunk c cs h in
    let two = All-head IsChunk d ds k in
    let same = one_line c.line d.line _ _ one.line.form two.line.form (sym (first_chunk c cs (print_chunk_line l ++ x)) ∙ e ∙ first_chunk d ds (print_chunk_line m ++ y)) in
    let sizes : length c.content ≡ length d.content = sym one.line.says ∙ ap chunk_size same.0 ∙ two.line.says in
    let parts = fronts c.content d.content _ _ sizes same.1 in
    let rest = append_cancel_left crlf_bytes _ _ parts.1 in
    let left : used + length c.content + length (data_of cs) ≡ used + length (c.content ++ data_of cs) = omega (arith, length-append c.content (data_of cs)) in
    let right : used + length c.content + length (data_of ds) ≡ used + length (d.content ++ data_of ds) = omega (arith, length-append d.content (data_of ds), sizes) in
    let tail = walk cs ds (used + length c.content) l m x y (All-tail IsChunk c cs h) (All-tail IsChunk d ds k) (rw left a) (rw right b) il im (rw left ends) (rw right fends) rest in
    (same_cons c d cs ds (same_chunk c d same.0 parts.0) tail.0, tail.1, tail.2)

-- ---- bodies

pub three : (a b c t : List ℕ) → ((a ++ b) ++ c) ++ t ≡ a ++ (b ++ (c ++ t))
three a b c t = simp append_assoc

same_request : (r s : Request) → r.head ≡ s.head → r.body ≡ s.body → r ≡ s
same_request r s p q = λ i. record { head = p i; body = q i }

whole_whole : (p q x y b c : List ℕ) → IsChunkedText p b → IsChunkedText q c → p ++ x ≡ q ++ y → (p ≡ q) × (b ≡ c)
whole_whole p q x y b c h k e =
    let flat = sym (three (print_chunks h.chunks) (print_chunk_line h.line) (print_section h.trailers h.last) x) ∙ ap (λ (t : List ℕ). t ++ x) (sym h.text_is) ∙ e ∙ ap (λ (t : List ℕ). t ++ y) k.text_is
    ∙ three (print_chunks k.chunks) (print_chunk_line k.line) (print_section k.trailers k.last) y in
    let same = walk h.chunks k.chunks 0 h.line k.line _ _ h.are.each k.are.each (omega (arith, h.are.small)) (omega (arith, k.are.small)) h.ends.form k.ends.form (inl h.ends.says) (inl k.ends.says) flat in
    let tails = section_unique (print_section k.trailers k.last ++ y) h.trailers k.trailers h.last k.last x y (h.passed.each, sym same.2) (k.passed.each, refl) in
    (h.text_is ∙ (λ i. (print_chunks (same.0 i) ++ print_chunk_line (same.1 i)) ++ print_section (tails.0 i) (tails.1 i)) ∙ sym k.text_is, h.body_is ∙ ap data_of same.0 ∙ sym k.body_is)

over_over : (p q x y : List ℕ) → IsOverlongText p → IsOverlongText q → p ++ x ≡ q ++ y → p ≡ q
over_over p q x y h k e =
    let flat = sym (append_assoc (print_chunks h.chunks) (print_chunk_line h.line) x) ∙ ap (λ (t : List ℕ). t ++ x) (sym h.text_is) ∙ e ∙ ap (λ (t : List ℕ). t ++ y) k.text_is
    ∙ append_assoc (print_chunks k.chunks) (print_chunk_line k.line) y in
    let one : 4096 < length (data_of h.chunks) + chunk_size h.line = omega (arith, h.over, h.says.says) in
    let two : 4096 < length (data_of k.chunks) + chunk_size k.line = omega (arith, k.over, k.says.says) in
    let same = walk h.chunks k.chunks 0 h.line k.line x y h.are.each k.are.each (omega (arith, h.are.small)) (omega (arith, k.are.small)) h.says.form k.says.form (inr (omega arith)) (inr (omega arith)) flat in
    h.text_is ∙ (λ i. print_chunks (same.0 i) ++ print_chunk_line (same.1 i)) ∙ sym k.text_is

whole_over : (p q x y b : List ℕ) → IsChunkedText p b → IsOverlongText q → p ++ x ≡ q ++ y → ⊥
whole_over p q x y b h k e =
    let flat = sym (three (print_chunks h.chunks) (print_chunk_line h.line) (print_section h.trailers h.last) x) ∙ ap (λ (t : List ℕ). t ++ x) (sym h.text_is) ∙ e ∙ ap (λ (t : List ℕ). t ++ y) k.text_is
    ∙ append_assoc (print_chunks k.chunks) (print_chunk_line k.line) y in
    let two : 4096 < length (data_of k.chunks) + chunk_size k.line = omega (arith, k.over, k.says.says) in
    let same = walk h.chunks k.chunks 0 h.line k.line _ y h.are.each k.are.each (omega (arith, h.are.small)) (omega (arith, k.are.small)) h.ends.form k.says.form (inl h.ends.says) (inr (omega arith)) flat in
    let none : chunk_size k.line ≡ 0 = ap chunk_size (sym same.1) ∙ h.ends.says in
    omega (arith, two, none, k.are.small)

pub one_body : (f : Framing) (p q x y : List ℕ) (b c : Body) → IsBody f p b → IsBody f q c → p ++ x ≡ q ++ y → (p ≡ q) × (b ≡ c)
one_body (Length n) p q x y (Bytes b) (Bytes c) h k e =
    let same = fronts p q x y (ap length h.2 ∙ h.0 ∙ sym k.0 ∙ ap length (sym k.2)) e in
    (same.0, ap Bytes (sym h.2 ∙ same.0 ∙ k.2))
one_body (Length n) p q x y (Bytes b) TooLong h k e = absurd (omega (arith, h.1, k.0))
one_body (Length n) p q x y TooLong (Bytes c) h k e = absurd (omega (arith, k.1, h.0))
one_body (Length n) p q x y TooLong TooLong h k e = (h.1 ∙ sym k.1, refl)
one_body Chunked p q x y (Bytes b) (Bytes c) h k e = let same = whole_whole p q x y b c h k e in (same.0, ap Bytes same.1)
one_body Chunked p q x y (Bytes b) TooLong h k e = absurd (whole_over p q x y b h k e)
one_body Chunked p q x y TooLong (Bytes c) h k e = absurd (whole_over q p y x c k h (sym e))
one_body Chunked p q x y TooLong TooLong h k e = (over_over p q x y h k e, refl)

-- ---- requests

pub same_framing : (f g : Framing) (lines : List Line) → framing_of lines ≡ Some f → framing_of lines ≡ Some g → f ≡ g
same_framing f g lines p q = let both : Some f ≡ Some g = sym p ∙ q in cc

pub one_request : (t u x y : List ℕ) (r s : Request) → IsRequest t r → IsRequest u s → t ++ x ≡ u ++ y → (t ≡ u) × (r ≡ s)
one_request t u x y r s h k e =
    let left : t ++ x ≡ print_request h.tree ++ (h.behind ++ x) = ap (λ (z : List ℕ). z ++ x) h.text_is ∙ append_assoc (print_request h.tree) h.behind x in
    let right : u ++ y ≡ print_request k.tree ++ (k.behind ++ y) = ap (λ (z : List ℕ). z ++ y) k.text_is ∙ append_assoc (print_request k.tree) k.behind y in
    let heads = request_unique (t ++ x) h.tree k.tree (h.behind ++ x) (k.behind ++ y) (h.is.form, left) (k.is.form, e ∙ right) in
    let framed = ap (λ (z : RequestHead). framing_of (lines_of z.fields)) heads.0 ∙ k.framed in
    let framing = same_framing h.framing k.framing (lines_of h.tree.fields) h.framed framed in
    let moved = subst (λ (z : Framing). IsBody z k.behind s.body) (sym framing) k.body in
    let bodies = one_body h.framing h.behind k.behind x y r.body s.body h.body moved heads.1 in (
      h.text_is ∙ (λ i. print_request (heads.0 i) ++ bodies.0 i) ∙ sym k.text_is,
      same_request r s (h.head ∙ (λ i. value_of (heads.0 i) (is_empty_body (bodies.1 i))) ∙ sym k.head) bodies.1,
    )
