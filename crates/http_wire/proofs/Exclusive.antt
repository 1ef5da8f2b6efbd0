-- Bytes with a request in front are neither open nor bad.
use Rattle.std.proofs.Common.{◌≡◌, ℕ, ◌+◌, ◌≤◌, ◌<◌, inl, inr, List, [], ◌∷◌, ◌++◌, length, take, drop, refl, sym, ap, ◌∙◌, append_assoc, length-append, arith, All, Option, Some, None, subst, zero-add}
use Rattle.std.proofs.lemmas.List.{drop_at, append_cancel_left, append-nil, take-append-le, take-append-drop}
use Rattle.std.proofs.Math.Seq.{take-append_seam}
use Rattle.std.proofs.lemmas.List.Elements.{All-head, All-tail}
use Rattle.httparse.specs.Ascii.{crlf_bytes}
use Rattle.httparse.specs.Grammar.{ChunkLine, IsChunkLine, print_chunk_line, chunk_size, print_section, print_request, LineEnd, Field, HasNoSection, RequestHead}
use Rattle.httparse.proofs.GrammarLemmas.{request_unique}
use Rattle.http_wire.specs.Heads.{lines_of}
use Rattle.http_wire.specs.Framings.{framing_of}
use Rattle.http_wire.specs.Requests.{IsBody, IsRequest, IsBodyOpen, IsBodyBad, BehindHead, IsOpen, IsHeadFull, IsBad}
use Rattle.http_wire.specs.declared.framing.Framing.{Framing}
use Rattle.http_wire.specs.declared.framing.Framing.TheVariants.{Length, Chunked}
use Rattle.http_wire.specs.declared.body.Body.{Body}
use Rattle.http_wire.specs.declared.body.Body.TheVariants.{Bytes, TooLong}
use Rattle.http_wire.specs.declared.request.Request.{Request}
use Rattle.http_bytes.specs.Breaks.{NeverOrFull, OpenWithin}
use Rattle.http_bytes.specs.Forms.{IsDataOpen, IsDataBad, IsCrlfOpen, IsCrlfBad, AreTrailersOpen, AreTrailersBad}
use Rattle.http_wire.specs.Chunks.{Chunk, IsChunk, print_chunks, data_of, AreChunks, AreTrailers, InData, IsChunkOpen, IsChunkBad, IsChunkedText, IsOverlongText, IsChunkedBody, BehindChunks, BehindLast, IsChunkedOpen, IsChunkedBad}
use Rattle.http_wire.proofs.OneRequest.{IsEnd, no_end, one_line, first_chunk, fronts, three, walk, same_framing}

-- what stands in front of some bytes, and is no longer than their front, stands in that
pub in_front : (front rest text z : List ℕ) → front ++ rest ≡ text ++ z → length text ≤ length front → front ≡ text ++ drop (length text) front
in_front front rest text z e inside =
    let begins : take (length text) front ≡ text =
    sym (take-append-le (length text) front rest inside) ∙ ap (take (length text)) e ∙ take-append_seam text z in
    sym (take-append-drop (length text) front) ∙ ap (λ (t : List ℕ). t ++ drop (length text) front) begins

-- no chunk for which there is room stands in front, nor the line of an end
pub record NoPart (used : ℕ) (tail : List ℕ) : Type 0 where
  pub no_chunk : (c : Chunk) (z : List ℕ) → IsChunk c → used + length c.content ≤ 4096 → tail ≡ print_chunk_line c.line ++ (c.content ++ (crlf_bytes ++ z)) → ⊥
  pub no_line : (m : ChunkLine) (z : List ℕ) → IsChunkLine m → length (print_chunk_line m) ≤ 65536 → IsEnd used (chunk_size m) → tail ≡ print_chunk_line m ++ z → ⊥

-- where no line stands
no_line_part : (used : ℕ) (tail : List ℕ) → ((l : ChunkLine) (z : List ℕ) → IsChunkLine l → length (print_chunk_line l) ≤ 65536 → tail ≡ print_chunk_line l ++ z → ⊥) → NoPart used tail
no_line_part used tail none = record { no_chunk = λ c z h room e. none c.line _ h.line.form h.line.short e; no_line = λ m z h short fin e. none m z h short e }

no_room : (used size n : ℕ) → 0 < size → used + size ≤ 4096 → n ≡ size → IsEnd used n → ⊥
no_room used size n some room e (inl zero) = omega arith
no_room used size n some room e (inr over) = omega arith

-- where a line stands with room, and no data with CR LF behind it
pub in_data_part : (used : ℕ) (P : ℕ → List ℕ → Type 0) (tail : List ℕ) → InData used P tail
    → ((size : ℕ) (content z t : List ℕ) → P size t → length content ≡ size → t ≡ content ++ (crlf_bytes ++ z) → ⊥) → NoPart used tail
in_data_part used P tail h wrong =
    record {
      no_chunk = λ c z k room e.
          let same = one_line h.line c.line h.behind.0 (c.content ++ (crlf_bytes ++ z)) h.says.form k.line.form (sym h.behind.1 ∙ e) in
          wrong h.size c.content z h.behind.0 h.behind.2 (sym k.line.says ∙ ap chunk_size (sym same.0) ∙ h.says.says) same.1;
      no_line = λ m z k short fin e.
          let same = one_line h.line m h.behind.0 z h.says.form k (sym h.behind.1 ∙ e) in
          no_room used h.size (chunk_size m) h.some h.room (ap chunk_size (sym same.0) ∙ h.says.says) fin;
    }

data_open_wrong : (size : ℕ) (content z t : List ℕ) → IsDataOpen size t → length content ≡ size → t ≡ content ++ (crlf_bytes ++ z) → ⊥
data_open_wrong size content z t h n e =
    let inside : size ≤ length t = omega (arith, ap length e, length-append content (crlf_bytes ++ z), n) in
    let tail : drop size t ≡ crlf_bytes ++ z = ap (drop size) e ∙ drop_at content (crlf_bytes ++ z) size n in
    let open_tail : IsCrlfOpen (crlf_bytes ++ z) = subst IsCrlfOpen tail (h inside) in
    open_tail

data_bad_wrong : (size : ℕ) (content z t : List ℕ) → IsDataBad size t → length content ≡ size → t ≡ content ++ (crlf_bytes ++ z) → ⊥
data_bad_wrong size content z t h n e =
    let tail : drop size t ≡ crlf_bytes ++ z = ap (drop size) e ∙ drop_at content (crlf_bytes ++ z) size n in
    let bad_tail : IsCrlfBad (crlf_bytes ++ z) = subst IsCrlfBad tail h.1 in
    bad_tail [] refl

pub open_part : (used : ℕ) (tail : List ℕ) → IsChunkOpen used tail → NoPart used tail
open_part used tail (inl h) = no_line_part used tail (λ l z k s e. h.0.0 l z (k, e))
open_part used tail (inr h) = in_data_part used IsDataOpen tail h data_open_wrong

pub bad_part : (used : ℕ) (tail : List ℕ) → IsChunkBad used tail → NoPart used tail
bad_part used tail (inl (inl h)) = no_line_part used tail (λ l z k s e. h [] l z (k, append-nil tail ∙ e))
bad_part used tail (inl (inr h)) = no_line_part used tail (λ l z k s e. h.open_front.0 l _ (k, in_front h.front h.rest (print_chunk_line l) z (sym h.parts ∙ e) (omega (arith, s, h.size))))
bad_part used tail (inr h) = in_data_part used IsDataBad tail h data_bad_wrong

-- chunks and such a tail are no chunks and an end
pub no_walk : (cs ds : List Chunk) (used : ℕ) (m : ChunkLine) (tail y : List ℕ) → All IsChunk cs → All IsChunk ds
    → used + length (data_of cs) ≤ 4096 → used + length (data_of ds) ≤ 4096 → NoPart (used + length (data_of cs)) tail → IsChunkLine m → length (print_chunk_line m) ≤ 65536
    → IsEnd (used + length (data_of ds)) (chunk_size m) → print_chunks cs ++ tail ≡ print_chunks ds ++ (print_chunk_line m ++ y) → ⊥
no_walk [] [] used m tail y h k a b part im short fin e = part.no_line m y im short fin e
no_walk [] (d ∷ ds) used m tail y h k a b part im short fin e =
    let room : used + 0 + length d.content ≤ 4096 = omega (arith, b, length-append d.content (data_of ds)) in
    part.no_chunk d (print_chunks ds ++ (print_chunk_line m ++ y)) (All-head IsChunk d ds k) room (e ∙ first_chunk d ds (print_chunk_line m ++ y))
no_walk (c ∷ cs) [] used m tail y h k a b part im short fin e =
    let chunk = All-head IsChunk c cs h in
    let same = one_line c.line m _ y chunk.line.form im (sym (first_chunk c cs tail) ∙ e) in
    let size : chunk_size m ≡ length c.content = ap chunk_size (sym same.0) ∙ chunk.line.says in
    let room : used + (length c.content + length (data_of cs)) ≤ 4096 = omega (arith, a, length-append c.content (data_of cs)) in
    no_end used (chunk_size m) (length c.content) (length (data_of cs)) chunk.some room size fin
no_walk (c ∷ cs) (d ∷ ds) used m tail y h k a b part im short fin e =
    let one = All-head IsChunk c cs h in
    let two = All-head IsChunk d ds k in
    let same = one_line c.line d.line _ _ one.line.form two.line.form (sym (first_chunk c cs tail) ∙ e ∙ first_chunk d ds (print_chunk_line m ++ y)) in
    let sizes : length c.content ≡ length d.content = sym one.line.says ∙ ap chunk_size same.0 ∙ two.line.says in
    let parts = fronts c.content d.content _ _ sizes same.1 in
    let rest = append_cancel_left crlf_bytes _ _ parts.1 in
    let left : used + length c.content + length (data_of cs) ≡ used + length (c.content ++ data_of cs) = omega (arith, length-append c.content (data_of cs)) in
    let right : used + length c.content + length (data_of ds) ≡ used + length (d.content ++ data_of ds) = omega (arith, length-append d.content (data_of ds), sizes) in
    no_walk cs ds (used + length c.content) m tail y (All-tail IsChunk c cs h) (All-tail IsChunk d ds k) (rw left a) (rw right b) (rw left part) im short (rw right fin) rest

-- ---- bodies

-- chunks, and the line of an end
pub record HasEnd (seen : List ℕ) : Type 0 where
  pub chunks : List Chunk
  pub are : AreChunks chunks
  pub line : ChunkLine
  pub form : IsChunkLine line
  pub short : length (print_chunk_line line) ≤ 65536
  pub fin : IsEnd (length (data_of chunks)) (chunk_size line)
  pub behind : List ℕ
  pub seen_is : seen ≡ print_chunks chunks ++ (print_chunk_line line ++ behind)

whole_end : (p y b : List ℕ) → IsChunkedText p b → HasEnd (p ++ y)
whole_end p y b h =
    record {
      chunks = h.chunks;
      are = h.are;
      line = h.line;
      form = h.ends.form;
      short = h.ends.short;
      fin = inl h.ends.says;
      behind = print_section h.trailers h.last ++ y;
      seen_is = ap (λ (t : List ℕ). t ++ y) h.text_is ∙ three (print_chunks h.chunks) (print_chunk_line h.line) (print_section h.trailers h.last) y;
    }

over_end : (p y : List ℕ) → IsOverlongText p → HasEnd (p ++ y)
over_end p y h =
    let over : 4096 < length (data_of h.chunks) + chunk_size h.line = omega (arith, h.over, h.says.says) in
    record {
      chunks = h.chunks;
      are = h.are;
      line = h.line;
      form = h.says.form;
      short = h.says.short;
      fin = inr over;
      behind = y;
      seen_is = ap (λ (t : List ℕ). t ++ y) h.text_is ∙ append_assoc (print_chunks h.chunks) (print_chunk_line h.line) y;
    }

pub no_chunks : (P : ℕ → List ℕ → Type 0) (seen : List ℕ) → ((used : ℕ) (tail : List ℕ) → P used tail → NoPart used tail) → BehindChunks P seen → HasEnd seen → ⊥
no_chunks P seen f h k =
    let part : NoPart (0 + length (data_of h.chunks)) h.behind.0 = rw zero-add (f _ _ h.behind.2) in
    let fin : IsEnd (0 + length (data_of k.chunks)) (chunk_size k.line) = rw zero-add k.fin in
    no_walk h.chunks k.chunks 0 k.line h.behind.0 k.behind h.are.each k.are.each (omega (arith, h.are.small)) (omega (arith, k.are.small)) part k.form k.short fin
    (sym h.behind.1 ∙ k.seen_is)

open_trailers : (t y : List ℕ) (fields : List Field) (last : LineEnd) → AreTrailers fields last → HasNoSection t → t ≡ print_section fields last ++ y → ⊥
open_trailers t y fields last h none e = none fields last y (h.each, e)

bad_trailers : (t y : List ℕ) (fields : List Field) (last : LineEnd) → AreTrailers fields last → NeverOrFull AreTrailersOpen AreTrailersBad t → t ≡ print_section fields last ++ y → ⊥
bad_trailers t y fields last h (inl bad) e = omega (arith, bad [] fields last y (h.each, append-nil t ∙ e), h.few)
bad_trailers t y fields last h (inr full) e = full.open_front.0 fields last _ (h.each, in_front full.front full.rest (print_section fields last) y (sym full.parts ∙ e) (omega (arith, h.short, full.size)))

last_whole : (P : List ℕ → Type 0) (p y b : List ℕ)
    → ((t z : List ℕ) (fields : List Field) (last : LineEnd) → AreTrailers fields last → P t → t ≡ print_section fields last ++ z → ⊥)
    → BehindLast P (p ++ y) → IsChunkedText p b → ⊥
last_whole P p y b f h k =
    let flat = sym (append_assoc (print_chunks h.chunks) (print_chunk_line h.line) h.behind.0) ∙ sym h.behind.1
    ∙ ap (λ (t : List ℕ). t ++ y) k.text_is ∙ three (print_chunks k.chunks) (print_chunk_line k.line) (print_section k.trailers k.last) y in
    let same = walk h.chunks k.chunks 0 h.line k.line h.behind.0 (print_section k.trailers k.last ++ y) h.are.each k.are.each (omega (arith, h.are.small)) (omega (arith, k.are.small)) h.ends.form k.ends.form (inl h.ends.says) (inl k.ends.says) flat in
    f h.behind.0 y k.trailers k.last k.passed h.behind.2 same.2

last_over : (P : List ℕ → Type 0) (p y : List ℕ) → BehindLast P (p ++ y) → IsOverlongText p → ⊥
last_over P p y h k =
    let flat = sym (append_assoc (print_chunks h.chunks) (print_chunk_line h.line) h.behind.0) ∙ sym h.behind.1
    ∙ ap (λ (t : List ℕ). t ++ y) k.text_is ∙ append_assoc (print_chunks k.chunks) (print_chunk_line k.line) y in
    let over : 4096 < length (data_of k.chunks) + chunk_size k.line = omega (arith, k.over, k.says.says) in
    let same = walk h.chunks k.chunks 0 h.line k.line h.behind.0 y h.are.each k.are.each (omega (arith, h.are.small)) (omega (arith, k.are.small)) h.ends.form k.says.form (inl h.ends.says) (inr (omega arith)) flat in
    let none : chunk_size k.line ≡ 0 = ap chunk_size (sym same.1) ∙ h.ends.says in
    omega (arith, over, none, k.are.small)

chunked_not_open : (p y : List ℕ) (body : Body) → IsChunkedBody p body → IsChunkedOpen (p ++ y) → ⊥
chunked_not_open p y (Bytes b) h (inl k) = no_chunks IsChunkOpen (p ++ y) open_part k (whole_end p y b h)
chunked_not_open p y (Bytes b) h (inr k) = last_whole (OpenWithin AreTrailersOpen) p y b (λ t z fields last a o e. open_trailers t z fields last a o.0.0 e) k h
chunked_not_open p y TooLong h (inl k) = no_chunks IsChunkOpen (p ++ y) open_part k (over_end p y h)
chunked_not_open p y TooLong h (inr k) = last_over (OpenWithin AreTrailersOpen) p y k h

chunked_not_bad : (p y : List ℕ) (body : Body) → IsChunkedBody p body → IsChunkedBad (p ++ y) → ⊥
chunked_not_bad p y (Bytes b) h (inl k) = no_chunks IsChunkBad (p ++ y) bad_part k (whole_end p y b h)
chunked_not_bad p y (Bytes b) h (inr k) = last_whole (NeverOrFull AreTrailersOpen AreTrailersBad) p y b bad_trailers k h
chunked_not_bad p y TooLong h (inl k) = no_chunks IsChunkBad (p ++ y) bad_part k (over_end p y h)
chunked_not_bad p y TooLong h (inr k) = last_over (NeverOrFull AreTrailersOpen AreTrailersBad) p y k h

body_not_open : (f : Framing) (p y : List ℕ) (body : Body) → IsBody f p body → IsBodyOpen f (p ++ y) → ⊥
body_not_open (Length n) p y (Bytes b) h k = omega (arith, k.1, length-append p y, ap length h.2, h.0)
body_not_open (Length n) p y TooLong h k = omega (arith, k.0, h.0)
body_not_open Chunked p y body h k = chunked_not_open p y body h k

body_not_bad : (f : Framing) (p y : List ℕ) (body : Body) → IsBody f p body → IsBodyBad f (p ++ y) → ⊥
body_not_bad (Length n) p y body h k = k
body_not_bad Chunked p y body h k = chunked_not_bad p y body h k

-- ---- requests

pub head_reads : (t y : List ℕ) (r : Request) (h : IsRequest t r) → t ++ y ≡ print_request h.tree ++ (h.behind ++ y)
head_reads t y r h = ap (λ (z : List ℕ). z ++ y) h.text_is ∙ append_assoc (print_request h.tree) h.behind y

behind_not : (P : Framing → List ℕ → Type 0) (t y : List ℕ) (r : Request) (h : IsRequest t r) → ((f : Framing) → IsBody f h.behind r.body → P f (h.behind ++ y) → ⊥) → BehindHead P (t ++ y) → ⊥
behind_not P t y r h f k =
    let heads = request_unique (t ++ y) h.tree k.tree (h.behind ++ y) k.behind.0 (h.is.form, head_reads t y r h) (k.is.form, k.behind.1) in
    let framed = ap (λ (z : RequestHead). framing_of (lines_of z.fields)) heads.0 ∙ k.framed in
    let framing = same_framing h.framing k.framing (lines_of h.tree.fields) h.framed framed in
    let moved = subst (λ (z : Framing). P z k.behind.0) (sym framing) k.behind.2 in
    f h.framing h.body (subst (P h.framing) (sym heads.1) moved)

pub not_open : (t y : List ℕ) (r : Request) → IsRequest t r → IsOpen (t ++ y) → ⊥
not_open t y r h (inl k) = k.0.0 h.tree (h.behind ++ y) (h.is.form, head_reads t y r h)
not_open t y r h (inr k) = behind_not IsBodyOpen t y r h (λ f b o. body_not_open f h.behind y r.body b o) k

pub no_framing : (f : Framing) (o : Option Framing) → o ≡ Some f → o ≡ None → ⊥
no_framing f o p q = cc

pub not_bad : (t y : List ℕ) (r : Request) → IsRequest t r → IsBad (t ++ y) → ⊥
not_bad t y r h (inl (inl k)) = omega (arith, k [] h.tree (h.behind ++ y) (h.is.form, append-nil (t ++ y) ∙ head_reads t y r h), h.is.few)
not_bad t y r h (inl (inr k)) =
    let heads = request_unique (t ++ y) h.tree k.tree (h.behind ++ y) k.behind (h.is.form, head_reads t y r h) (k.is.form, k.seen_is) in
    let framed = ap (λ (z : RequestHead). framing_of (lines_of z.fields)) heads.0 ∙ k.unframed in
    no_framing h.framing (framing_of (lines_of h.tree.fields)) h.framed framed
not_bad t y r h (inr k) = behind_not IsBodyBad t y r h (λ f b o. body_not_bad f h.behind y r.body b o) k

pub not_full : (t y : List ℕ) (r : Request) → IsRequest t r → IsHeadFull (t ++ y) → ⊥
not_full t y r h k = k.0.0 h.tree (h.behind ++ y) (h.is.form, head_reads t y r h)
