-- Reading a chunked body, part by part.
use Rattle.std.proofs.Common.{◌≡◌, ℕ, ◌+◌, ◌-◌, ◌≤◌, ◌<◌, inl, inr, List, [], ◌∷◌, ◌++◌, length, take, drop, Option, refl, sym, ap, ◌∙◌, append_assoc, arith, length-append, length-take, length-drop}
use Rattle.std.proofs.lemmas.List.{take-append-drop, drop-drop, append-nil}
use Rattle.httparse.specs.Ascii.{crlf_bytes}
use Rattle.httparse.specs.Grammar.{print_section, print_chunk_line}
use Rattle.http_bytes.specs.declared.fault.WireFault.{WireFault}
use Rattle.http_bytes.specs.Moves.{Moves}
use Rattle.http_bytes.specs.Breaks.{Breaks, NeverOrFull, OpenWithin}
use Rattle.http_bytes.specs.Forms.{IsLineFound, IsDataFound, IsDataOpen, IsDataBad, IsCrlfOpen, AreTrailersFound, AreTrailersOpen, AreTrailersBad}
use Rattle.http_wire.specs.Chunks.{Chunk, print_chunk, IsChunk, print_chunks, data_of, AreChunks, TakesLine, TakesData, TakesChunk, TakesSome, TakesUpToLast, TakesTrailers, TakesOver, TakesOverlong, IsChunkOpen, IsChunkBad, AreChunksOpen, AreChunksBad, IsChunkedOpen, IsChunkedBad, TakesChunked}
use Rattle.http_wire.specs.declared.body.Body.TheVariants.{Bytes}
use Rattle.std.proofs.lemmas.List.Elements.{All-append, All-cons, All-nil}
use Rattle.std.proofs.lemmas.List.Concat.{flat_map-append}
use Rattle.http_bytes.proofs.Flow.{Takes-moved, Takes-then, Takes-none}
use Rattle.http_bytes.proofs.Breaking.{Breaks-behind, Breaks-as}

-- a part is no longer than what it stands in front of
within : (y text z : List ℕ) (n : ℕ) → y ≡ text ++ z → length y ≤ n → length text ≤ n
within y text z n e h = omega (arith, h, length-append text z, ap length e)

pub line_taken : (a b : Option (List ℕ)) (x y z : List ℕ) (len size : ℕ) → Moves a b x y → IsLineFound len size y → length y ≤ 65536 → z ≡ drop len y → TakesLine a b x z size
line_taken a b x y z len size h k short e =
    record {
      line = k.0;
      says = record { form = k.1.reads.0; short = within y (print_chunk_line k.0) (drop len y) 65536 k.1.reads.1 short; says = sym k.1.size_is };
      takes = Takes-moved a b x y z (print_chunk_line k.0) h (rw e k.1.reads.1);
    }

pub trailers_taken : (a b : Option (List ℕ)) (x y z : List ℕ) (len : ℕ) → Moves a b x y → AreTrailersFound len y → length y ≤ 65536 → z ≡ drop len y → TakesTrailers a b x z
trailers_taken a b x y z len h k short e =
    record {
      trailers = k.0;
      last = k.1;
      passed = record { each = k.2.0; short = within y (print_section k.0 k.1) (drop len y) 65536 k.2.1 short; few = k.4 };
      takes = Takes-moved a b x y z (print_section k.0 k.1) h (rw e k.2.1);
    }

-- the data, and CR LF behind it
data_parts : (size : ℕ) (y : List ℕ) → IsDataFound size y → y ≡ (take size y ++ crlf_bytes) ++ drop (size + 2) y
data_parts size y k =
    let rest : drop size y ≡ crlf_bytes ++ drop (size + 2) y = k.1 ∙ ap (λ (t : List ℕ). 13 ∷ 10 ∷ t) (drop-drop 2 size y) in
    sym (take-append-drop size y) ∙ ap (λ (t : List ℕ). take size y ++ t) rest ∙ sym (append_assoc (take size y) crlf_bytes (drop (size + 2) y))

pub data_inside : (size : ℕ) (y : List ℕ) → IsDataFound size y → size + 2 ≤ length y
data_inside size y k =
    let tail : length (drop size y) ≡ length (13 ∷ 10 ∷ drop 2 (drop size y)) = ap length k.1 in
    omega (arith, tail, k.0, length-drop size y)

pub data_taken : (a b : Option (List ℕ)) (x y z was body : List ℕ) (size : ℕ) → Moves a b x y → IsDataFound size y → z ≡ drop (size + 2) y → body ≡ was ++ take size y → TakesData a b x z was body size
data_taken a b x y z was body size h k e f =
    record {
      content = take size y;
      size_is = omega (arith, length-take size y, k.0);
      takes = Takes-moved a b x y z (take size y ++ crlf_bytes) h (rw e (data_parts size y k));
      body_is = f;
    }

crlf_open_short : (t : List ℕ) → IsCrlfOpen t → length t ≤ 1
crlf_open_short [] h = omega arith
crlf_open_short (b ∷ []) h = omega arith
crlf_open_short (b ∷ c ∷ t) h = absurd h

-- data never fills what is kept
pub data_never_full : (size : ℕ) → size ≤ 4096 → (seen : List ℕ) → NeverOrFull (IsDataOpen size) (IsDataBad size) seen → IsDataBad size seen
data_never_full size small seen (inl bad) = bad
data_never_full size small seen (inr full) =
    let short = crlf_open_short (drop size full.front) (full.open_front (omega (arith, full.size, small))) in
    absurd (omega (arith, short, full.size, small, length-drop size full.front))

-- ---- one chunk

pub chunk_taken : (a b c : Option (List ℕ)) (x y z was body : List ℕ) (size : ℕ) → TakesLine a b x y size → TakesData b c y z was body size
    → 0 < size → length was + size ≤ 4096 → TakesChunk a c x z was body
chunk_taken a b c x y z was body size h k some room =
    record {
      chunk = record { line = h.line; content = k.content };
      is = record { line = rw k.size_is h.says; some = rw k.size_is some };
      takes = Takes-then a b c x y z (print_chunk_line h.line) (k.content ++ crlf_bytes) h.takes k.takes;
      body_is = k.body_is;
      small = omega (arith, ap length k.body_is, length-append was k.content, k.size_is, room);
    }

pub data_breaks : (fault : WireFault) (a b c : Option (List ℕ)) (x y : List ℕ) (used size : ℕ) → TakesLine a b x y size → 0 < size → used + size ≤ 4096
    → Breaks fault b c y (IsDataOpen size) (IsDataBad size) → Breaks fault a c x (IsChunkOpen used) (IsChunkBad used)
data_breaks fault a b c x y used size h some room k =
    Breaks-behind fault a b c x y (print_chunk_line h.line) (IsDataOpen size) (IsDataBad size) (IsChunkOpen used) (IsChunkBad used)
    (λ s p. inr (record { line = h.line; size = size; says = h.says; some = some; room = room; behind = (s, refl, p) }))
    (λ s p. inr (record { line = h.line; size = size; says = h.says; some = some; room = room; behind = (s, refl, p) }))
    h.takes k

-- ---- chunks

some_small : (a b : Option (List ℕ)) (x y body : List ℕ) → TakesSome a b x y body → length body ≤ 4096
some_small a b x y body h = rw h.body_is h.are.small

some_none_are : AreChunks []
some_none_are = record { each = All-nil IsChunk; small = omega arith }

pub some_none : (a : Option (List ℕ)) (x body : List ℕ) → body ≡ [] → TakesSome a a x x body
some_none a x body e = record { chunks = []; are = some_none_are; takes = Takes-none a x; body_is = e }

chunks_one : (c : Chunk) → print_chunks (c ∷ []) ≡ print_chunk c
chunks_one c = append-nil (print_chunk c)

data_one : (c : Chunk) → data_of (c ∷ []) ≡ c.content
data_one c = append-nil c.content

pub some_more : (a b c : Option (List ℕ)) (x y z was body : List ℕ) → TakesSome a b x y was → TakesChunk b c y z was body → TakesSome a c x z body
some_more a b c x y z was body h k =
    let text : print_chunks (h.chunks ++ k.chunk ∷ []) ≡ print_chunks h.chunks ++ print_chunk k.chunk =
    flat_map-append print_chunk h.chunks (k.chunk ∷ []) ∙ ap (λ (t : List ℕ). print_chunks h.chunks ++ t) (chunks_one k.chunk) in
    let content : data_of (h.chunks ++ k.chunk ∷ []) ≡ data_of h.chunks ++ k.chunk.content =
    flat_map-append (λ c. c.content) h.chunks (k.chunk ∷ []) ∙ ap (λ (t : List ℕ). data_of h.chunks ++ t) (data_one k.chunk) in
    let same : body ≡ data_of (h.chunks ++ k.chunk ∷ []) = k.body_is ∙ ap (λ (t : List ℕ). t ++ k.chunk.content) h.body_is ∙ sym content in
    record {
      chunks = h.chunks ++ k.chunk ∷ [];
      are = record { each = All-append IsChunk h.chunks (k.chunk ∷ []) h.are.each (All-cons IsChunk k.chunk [] k.is (All-nil IsChunk)); small = rw (← same) k.small };
      takes = rw text (Takes-then a b c x y z (print_chunks h.chunks) (print_chunk k.chunk) h.takes k.takes);
      body_is = same;
    }

pub ends_last : (a b c : Option (List ℕ)) (x y z was body : List ℕ) → TakesSome a b x y was → TakesLine b c y z 0 → body ≡ was → TakesUpToLast a c x z body
ends_last a b c x y z was body h k e =
    record {
      chunks = h.chunks;
      are = h.are;
      line = k.line;
      ends = k.says;
      takes = Takes-then a b c x y z (print_chunks h.chunks) (print_chunk_line k.line) h.takes k.takes;
      body_is = e ∙ h.body_is;
    }

pub ends_over : (a b c : Option (List ℕ)) (x y z was : List ℕ) → TakesSome a b x y was → TakesOver b c y z was → TakesOverlong a c x z
ends_over a b c x y z was h k =
    record {
      text = print_chunks h.chunks ++ print_chunk_line k.line.line;
      is = record { chunks = h.chunks; are = h.are; line = k.line.line; size = k.size; says = k.line.says; over = rw (← h.body_is) k.over; text_is = refl };
      takes = Takes-then a b c x y z (print_chunks h.chunks) (print_chunk_line k.line.line) h.takes k.line.takes;
    }

pub chunks_break : (fault : WireFault) (a b c : Option (List ℕ)) (x y was : List ℕ) → TakesSome a b x y was
    → Breaks fault b c y (IsChunkOpen (length was)) (IsChunkBad (length was)) → Breaks fault a c x AreChunksOpen AreChunksBad
chunks_break fault a b c x y was h k =
    Breaks-behind fault a b c x y (print_chunks h.chunks) (IsChunkOpen (length was)) (IsChunkBad (length was)) AreChunksOpen AreChunksBad
    (λ s p. record { chunks = h.chunks; are = h.are; behind = (s, refl, rw (← h.body_is) p) })
    (λ s p. record { chunks = h.chunks; are = h.are; behind = (s, refl, rw (← h.body_is) p) })
    h.takes k

-- a chunk makes the body longer
pub chunk_grows : (a b : Option (List ℕ)) (x y was body : List ℕ) → TakesChunk a b x y was body → 4097 - length body < 4097 - length was
chunk_grows a b x y was body k = omega (arith, k.is.some, k.small, ap length k.body_is, length-append was k.chunk.content)

-- ---- the whole body

pub chunked_taken : (a b c : Option (List ℕ)) (x y z body : List ℕ) → TakesUpToLast a b x y body → TakesTrailers b c y z → TakesChunked a c x z (Bytes body)
chunked_taken a b c x y z body h k =
    record {
      text = (print_chunks h.chunks ++ print_chunk_line h.line) ++ print_section k.trailers k.last;
      is = record { chunks = h.chunks; are = h.are; line = h.line; ends = h.ends; trailers = k.trailers; last = k.last; passed = k.passed; text_is = refl; body_is = h.body_is };
      takes = Takes-then a b c x y z (print_chunks h.chunks ++ print_chunk_line h.line) (print_section k.trailers k.last) h.takes k.takes;
    }

pub trailers_break : (fault : WireFault) (a b c : Option (List ℕ)) (x y body : List ℕ) → TakesUpToLast a b x y body
    → Breaks fault b c y (OpenWithin AreTrailersOpen) (NeverOrFull AreTrailersOpen AreTrailersBad) → Breaks fault a c x IsChunkedOpen IsChunkedBad
trailers_break fault a b c x y body h k =
    Breaks-behind fault a b c x y (print_chunks h.chunks ++ print_chunk_line h.line) (OpenWithin AreTrailersOpen) (NeverOrFull AreTrailersOpen AreTrailersBad) IsChunkedOpen IsChunkedBad
    (λ s p. inr (record { chunks = h.chunks; are = h.are; line = h.line; ends = h.ends; behind = (s, refl, p) }))
    (λ s p. inr (record { chunks = h.chunks; are = h.are; line = h.line; ends = h.ends; behind = (s, refl, p) }))
    h.takes k

pub chunks_of_body_break : (fault : WireFault) (a b : Option (List ℕ)) (x : List ℕ) → Breaks fault a b x AreChunksOpen AreChunksBad → Breaks fault a b x IsChunkedOpen IsChunkedBad
chunks_of_body_break fault a b x k = Breaks-as fault a b x AreChunksOpen AreChunksBad IsChunkedOpen IsChunkedBad (λ s p. inl p) (λ s p. inl p) k
