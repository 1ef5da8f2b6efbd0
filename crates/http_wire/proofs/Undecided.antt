-- Open bytes are not bad, but for what the grammar leaves undecided.
use Rattle.std.proofs.Common.{◌≡◌, ℕ, ◌+◌, ◌≤◌, inl, inr, List, [], ◌∷◌, ◌++◌, length, drop, refl, sym, ap, ◌∙◌, append_assoc, length-append, arith, All, subst, zero-add}
use Rattle.std.proofs.lemmas.List.{append_cancel_left, append-nil}
use Rattle.std.proofs.lemmas.List.Elements.{All-head, All-tail}
use Rattle.httparse.specs.Ascii.{crlf_bytes}
use Rattle.httparse.specs.Grammar.{ChunkLine, print_chunk_line, chunk_size, RequestHead}
use Rattle.httparse.proofs.GrammarLemmas.{request_unique}
use Rattle.http_bytes.specs.Breaks.{IsFull, NeverOrFull, OpenWithin}
use Rattle.http_bytes.specs.Forms.{IsLineOpen, IsLineBad, IsDataOpen, IsDataBad, IsCrlfOpen, IsCrlfBad, AreTrailersOpen, AreTrailersBad}
use Rattle.http_wire.specs.Heads.{lines_of}
use Rattle.http_wire.specs.Framings.{framing_of}
use Rattle.http_wire.specs.Chunks.{Chunk, IsChunk, IsSizeLine, print_chunks, data_of, InData, IsChunkOpen, IsChunkBad, AreChunksOpen, AreChunksBad, BehindLast, IsChunkedOpen, IsChunkedBad}
use Rattle.http_wire.specs.Requests.{BehindHead, IsBodyOpen, IsBodyBad, IsOpen, IsBad, AreTrailersUndecided, IsBodyUndecided, IsUndecided}
use Rattle.http_wire.specs.declared.framing.Framing.{Framing}
use Rattle.http_wire.specs.declared.framing.Framing.TheVariants.{Length, Chunked}
use Rattle.http_wire.proofs.OneRequest.{first_chunk, fronts, one_line, walk, same_framing, same_chunk, same_cons}
use Rattle.http_wire.proofs.Exclusive.{NoPart, HasEnd, open_part, bad_part, no_chunks, no_framing, in_front}

-- fewer than 65,536 bytes have no front of 65,536
not_full_within : (P Q : List ℕ → Type 0) (seen : List ℕ) → OpenWithin P seen → IsFull Q seen → ⊥
not_full_within P Q seen h k = omega (arith, h.1, ap length k.parts, length-append k.front k.rest, k.size)

-- ---- one chunk

line_open_bad : (seen : List ℕ) → OpenWithin IsLineOpen seen → NeverOrFull IsLineOpen IsLineBad seen → ⊥
line_open_bad seen h (inl k) = let may = h.0.1 in k may.0 may.1 [] may.2
line_open_bad seen h (inr k) = not_full_within IsLineOpen IsLineOpen seen h k

-- a line in front is there
line_not_bad : (line : ChunkLine) (size : ℕ) (seen tail : List ℕ) → IsSizeLine line size → seen ≡ print_chunk_line line ++ tail → NeverOrFull IsLineOpen IsLineBad seen → ⊥
line_not_bad line size seen tail h e (inl k) = k [] line tail (h.form, append-nil seen ∙ e)
line_not_bad line size seen tail h e (inr k) =
    k.open_front.0 line _ (h.form, in_front k.front k.rest (print_chunk_line line) tail (sym k.parts ∙ e) (omega (arith, h.short, k.size)))

crlf_open_bad : (tail : List ℕ) → IsCrlfOpen tail → IsCrlfBad tail → ⊥
crlf_open_bad [] h k = k (13 ∷ 10 ∷ []) refl
crlf_open_bad (b ∷ []) h k = k (10 ∷ []) (ap (λ (x : ℕ). x ∷ 10 ∷ []) h)
crlf_open_bad (b ∷ c ∷ tail) h k = h

data_open_bad : (size : ℕ) (seen : List ℕ) → IsDataOpen size seen → IsDataBad size seen → ⊥
data_open_bad size seen h k = crlf_open_bad (drop size seen) (h k.0) k.1

in_data_open_bad : (used : ℕ) (seen : List ℕ) → InData used IsDataOpen seen → InData used IsDataBad seen → ⊥
in_data_open_bad used seen h k =
    let same = one_line h.line k.line h.behind.0 k.behind.0 h.says.form k.says.form (sym h.behind.1 ∙ k.behind.1) in
    let size : k.size ≡ h.size = sym k.says.says ∙ ap chunk_size (sym same.0) ∙ h.says.says in
    let moved : IsDataBad h.size k.behind.0 = subst (λ (n : ℕ). IsDataBad n k.behind.0) size k.behind.2 in
    data_open_bad h.size h.behind.0 h.behind.2 (subst (IsDataBad h.size) (sym same.1) moved)

chunk_open_bad : (used : ℕ) (seen : List ℕ) → IsChunkOpen used seen → IsChunkBad used seen → ⊥
chunk_open_bad used seen (inl h) (inl k) = line_open_bad seen h k
chunk_open_bad used seen (inl h) (inr k) = h.0.0 k.line k.behind.0 (k.says.form, k.behind.1)
chunk_open_bad used seen (inr h) (inl k) = line_not_bad h.line h.size seen h.behind.0 h.says h.behind.1 k
chunk_open_bad used seen (inr h) (inr k) = in_data_open_bad used seen h k

-- ---- chunks

-- the same chunks stand before no part and no part
pub both_walks : (cs ds : List Chunk) (used : ℕ) (t u : List ℕ) → All IsChunk cs → All IsChunk ds
    → used + length (data_of cs) ≤ 4096 → used + length (data_of ds) ≤ 4096 → NoPart (used + length (data_of cs)) t → NoPart (used + length (data_of ds)) u
    → print_chunks cs ++ t ≡ print_chunks ds ++ u → (cs ≡ ds) × (t ≡ u)
both_walks [] [] used t u h k a b p q e = (refl, e)
both_walks [] (d ∷ ds) used t u h k a b p q e =
    let room : used + 0 + length d.content ≤ 4096 = omega (arith, b, length-append d.content (data_of ds)) in
    absurd (p.no_chunk d (print_chunks ds ++ u) (All-head IsChunk d ds k) room (e ∙ first_chunk d ds u))
both_walks (c ∷ cs) [] used t u h k a b p q e =
    let room : used + 0 + length c.content ≤ 4096 = omega (arith, a, length-append c.content (data_of cs)) in
    absurd (q.no_chunk c (print_chunks cs ++ t) (All-head IsChunk c cs h) room (sym e ∙ first_chunk c cs t))
both_walks (c ∷ cs) (d ∷ ds) used t u h k a b p q e =
    let one = All-head IsChunk c cs h in
    let two = All-head IsChunk d ds k in
    let same = one_line c.line d.line _ _ one.line.form two.line.form (sym (first_chunk c cs t) ∙ e ∙ first_chunk d ds u) in
    let sizes : length c.content ≡ length d.content = sym one.line.says ∙ ap chunk_size same.0 ∙ two.line.says in
    let parts = fronts c.content d.content _ _ sizes same.1 in
    let rest = append_cancel_left crlf_bytes _ _ parts.1 in
    let left : used + length c.content + length (data_of cs) ≡ used + length (c.content ++ data_of cs) = omega (arith, length-append c.content (data_of cs)) in
    let right : used + length c.content + length (data_of ds) ≡ used + length (d.content ++ data_of ds) = omega (arith, length-append d.content (data_of ds), sizes) in
    let tail = both_walks cs ds (used + length c.content) t u (All-tail IsChunk c cs h) (All-tail IsChunk d ds k) (rw left a) (rw right b) (rw left p) (rw right q) rest in
    (same_cons c d cs ds (same_chunk c d same.0 parts.0) tail.0, tail.1)

chunks_open_bad : (seen : List ℕ) → AreChunksOpen seen → AreChunksBad seen → ⊥
chunks_open_bad seen h k =
    let open_end : NoPart (0 + length (data_of h.chunks)) h.behind.0 = rw zero-add (open_part _ _ h.behind.2) in
    let bad_end : NoPart (0 + length (data_of k.chunks)) k.behind.0 = rw zero-add (bad_part _ _ k.behind.2) in
    let same = both_walks h.chunks k.chunks 0 h.behind.0 k.behind.0 h.are.each k.are.each (omega (arith, h.are.small)) (omega (arith, k.are.small)) open_end bad_end (sym h.behind.1 ∙ k.behind.1) in
    let moved : IsChunkBad (length (data_of h.chunks)) k.behind.0 = subst (λ (cs : List Chunk). IsChunkBad (length (data_of cs)) k.behind.0) (sym same.0) k.behind.2 in
    chunk_open_bad (length (data_of h.chunks)) h.behind.0 h.behind.2 (subst (IsChunkBad (length (data_of h.chunks))) (sym same.1) moved)

last_end : (P : List ℕ → Type 0) (seen : List ℕ) → BehindLast P seen → HasEnd seen
last_end P seen h =
    record {
      chunks = h.chunks;
      are = h.are;
      line = h.line;
      form = h.ends.form;
      short = h.ends.short;
      fin = inl h.ends.says;
      behind = h.behind.0;
      seen_is = h.behind.1 ∙ append_assoc (print_chunks h.chunks) (print_chunk_line h.line) h.behind.0;
    }

-- ---- trailers

trailers_open_bad : (seen : List ℕ) → OpenWithin AreTrailersOpen seen → NeverOrFull AreTrailersOpen AreTrailersBad seen → AreTrailersUndecided seen
trailers_open_bad seen h (inl k) = (h.0, k)
trailers_open_bad seen h (inr k) = absurd (not_full_within AreTrailersOpen AreTrailersOpen seen h k)

last_open_bad : (seen : List ℕ) → BehindLast (OpenWithin AreTrailersOpen) seen → BehindLast (NeverOrFull AreTrailersOpen AreTrailersBad) seen → BehindLast AreTrailersUndecided seen
last_open_bad seen h k =
    let flat = sym (append_assoc (print_chunks h.chunks) (print_chunk_line h.line) h.behind.0) ∙ sym h.behind.1 ∙ k.behind.1
    ∙ append_assoc (print_chunks k.chunks) (print_chunk_line k.line) k.behind.0 in
    let same = walk h.chunks k.chunks 0 h.line k.line h.behind.0 k.behind.0 h.are.each k.are.each (omega (arith, h.are.small)) (omega (arith, k.are.small)) h.ends.form k.ends.form (inl h.ends.says) (inl k.ends.says) flat in
    let both = trailers_open_bad h.behind.0 h.behind.2 (subst (NeverOrFull AreTrailersOpen AreTrailersBad) (sym same.2) k.behind.2) in
    record { chunks = h.chunks; are = h.are; line = h.line; ends = h.ends; behind = (h.behind.0, h.behind.1, both) }

-- ---- bodies

chunked_open_bad : (seen : List ℕ) → IsChunkedOpen seen → IsChunkedBad seen → BehindLast AreTrailersUndecided seen
chunked_open_bad seen (inl h) (inl k) = absurd (chunks_open_bad seen h k)
chunked_open_bad seen (inl h) (inr k) = absurd (no_chunks IsChunkOpen seen open_part h (last_end _ seen k))
chunked_open_bad seen (inr h) (inl k) = absurd (no_chunks IsChunkBad seen bad_part k (last_end _ seen h))
chunked_open_bad seen (inr h) (inr k) = last_open_bad seen h k

body_open_bad : (f : Framing) (seen : List ℕ) → IsBodyOpen f seen → IsBodyBad f seen → IsBodyUndecided f seen
body_open_bad (Length n) seen h k = k
body_open_bad Chunked seen h k = chunked_open_bad seen h k

-- ---- requests

behind_open_bad : (seen : List ℕ) → BehindHead IsBodyOpen seen → BehindHead IsBodyBad seen → BehindHead IsBodyUndecided seen
behind_open_bad seen h k =
    let heads = request_unique seen h.tree k.tree h.behind.0 k.behind.0 (h.is.form, h.behind.1) (k.is.form, k.behind.1) in
    let framed = ap (λ (z : RequestHead). framing_of (lines_of z.fields)) heads.0 ∙ k.framed in
    let framing = same_framing h.framing k.framing (lines_of h.tree.fields) h.framed framed in
    let moved = subst (λ (z : Framing). IsBodyBad z k.behind.0) (sym framing) k.behind.2 in
    let both = body_open_bad h.framing h.behind.0 h.behind.2 (subst (IsBodyBad h.framing) (sym heads.1) moved) in
    record { tree = h.tree; is = h.is; framing = h.framing; framed = h.framed; behind = (h.behind.0, h.behind.1, both) }

pub open_bad : (seen : List ℕ) → IsOpen seen → IsBad seen → IsUndecided seen
open_bad seen (inl h) (inl (inl k)) = inl (h.0, k)
open_bad seen (inl h) (inl (inr k)) = absurd (h.0.0 k.tree k.behind (k.is.form, k.seen_is))
open_bad seen (inl h) (inr k) = absurd (h.0.0 k.tree k.behind.0 (k.is.form, k.behind.1))
open_bad seen (inr h) (inl (inl k)) = absurd (omega (arith, k [] h.tree h.behind.0 (h.is.form, append-nil seen ∙ h.behind.1), h.is.few))
open_bad seen (inr h) (inl (inr k)) =
    let heads = request_unique seen h.tree k.tree h.behind.0 k.behind (h.is.form, h.behind.1) (k.is.form, k.seen_is) in
    let framed = ap (λ (z : RequestHead). framing_of (lines_of z.fields)) heads.0 ∙ k.unframed in
    absurd (no_framing h.framing (framing_of (lines_of h.tree.fields)) h.framed framed)
open_bad seen (inr h) (inr k) = inr (behind_open_bad seen h k)
