-- Bad bytes stay bad, whatever follows.
use Rattle.std.proofs.Common.{◌≡◌, ℕ, ◌≤◌, inl, inr, List, ◌++◌, length, drop, sym, ap, ◌∙◌, append_assoc, length-append, arith, subst}
use Rattle.std.proofs.lemmas.List.{drop-append-le}
use Rattle.httparse.specs.Grammar.{print_request}
use Rattle.http_bytes.specs.Breaks.{Behind, IsFull, NeverOrFull}
use Rattle.http_bytes.specs.Forms.{IsLineOpen, IsLineBad, IsDataBad, IsCrlf, IsCrlfBad, AreTrailersOpen, AreTrailersBad, IsHeadBad}
use Rattle.http_wire.specs.Chunks.{IsChunkBad, AreChunksBad, BehindLast, IsChunkedBad}
use Rattle.http_wire.specs.Requests.{IsUnframed, IsBodyBad, IsBad}
use Rattle.http_wire.specs.declared.framing.Framing.{Framing}
use Rattle.http_wire.specs.declared.framing.Framing.TheVariants.{Length, Chunked}

-- P goes on holding
abbrev pub Lasts : (List ℕ → Type 0) → Type 0
Lasts P = (seen more : List ℕ) → P seen → P (seen ++ more)

-- what stands in front stays there
more_behind : (text tail seen more : List ℕ) → seen ≡ text ++ tail → seen ++ more ≡ text ++ (tail ++ more)
more_behind text tail seen more e = ap (λ (t : List ℕ). t ++ more) e ∙ append_assoc text tail more

Behind-lasts : (text : List ℕ) (P : List ℕ → Type 0) → Lasts P → Lasts (Behind text P)
Behind-lasts text P f seen more h = (h.0 ++ more, more_behind text h.0 seen more h.1, f h.0 more h.2)

IsFull-lasts : (Open : List ℕ → Type 0) → Lasts (IsFull Open)
IsFull-lasts Open seen more h =
    record { front = h.front; rest = h.rest ++ more; parts = more_behind h.front h.rest seen more h.parts; size = h.size; open_front = h.open_front }

NeverOrFull-lasts : (Open Never : List ℕ → Type 0) → Lasts Never → Lasts (NeverOrFull Open Never)
NeverOrFull-lasts Open Never f seen more (inl h) = inl (f seen more h)
NeverOrFull-lasts Open Never f seen more (inr h) = inr (IsFull-lasts Open seen more h)

line_bad_lasts : Lasts IsLineBad
line_bad_lasts seen more h = λ further l rest k. h (more ++ further) l rest (k.0, sym (append_assoc seen more further) ∙ k.1)

trailers_bad_last : Lasts AreTrailersBad
trailers_bad_last seen more h = λ further fields last rest k. h (more ++ further) fields last rest (k.0, sym (append_assoc seen more further) ∙ k.1)

head_bad_lasts : Lasts IsHeadBad
head_bad_lasts seen more h = λ further head rest k. h (more ++ further) head rest (k.0, sym (append_assoc seen more further) ∙ k.1)

crlf_bad_lasts : Lasts IsCrlfBad
crlf_bad_lasts seen more h = λ further k. h (more ++ further) (subst IsCrlf (append_assoc seen more further) k)

data_bad_lasts : (size : ℕ) → Lasts (IsDataBad size)
data_bad_lasts size seen more h =
    let inside : size ≤ length (seen ++ more) = omega (arith, h.0, length-append seen more) in
    (inside, subst IsCrlfBad (sym (drop-append-le size seen more h.0)) (crlf_bad_lasts (drop size seen) more h.1))

chunk_bad_lasts : (used : ℕ) → Lasts (IsChunkBad used)
chunk_bad_lasts used seen more (inl h) = inl (NeverOrFull-lasts IsLineOpen IsLineBad line_bad_lasts seen more h)
chunk_bad_lasts used seen more (inr h) =
    inr (record { line = h.line; size = h.size; says = h.says; some = h.some; room = h.room; behind = Behind-lasts _ (IsDataBad h.size) (data_bad_lasts h.size) seen more h.behind })

chunks_bad_last : Lasts AreChunksBad
chunks_bad_last seen more h =
    record { chunks = h.chunks; are = h.are; behind = Behind-lasts _ (IsChunkBad _) (chunk_bad_lasts _) seen more h.behind }

last_lasts : (P : List ℕ → Type 0) → Lasts P → Lasts (BehindLast P)
last_lasts P f seen more h =
    record { chunks = h.chunks; are = h.are; line = h.line; ends = h.ends; behind = Behind-lasts _ P f seen more h.behind }

chunked_bad_lasts : Lasts IsChunkedBad
chunked_bad_lasts seen more (inl h) = inl (chunks_bad_last seen more h)
chunked_bad_lasts seen more (inr h) = inr (last_lasts _ (NeverOrFull-lasts AreTrailersOpen AreTrailersBad trailers_bad_last) seen more h)

body_bad_lasts : (f : Framing) → Lasts (IsBodyBad f)
body_bad_lasts (Length n) seen more h = absurd h
body_bad_lasts Chunked seen more h = chunked_bad_lasts seen more h

unframed_lasts : Lasts IsUnframed
unframed_lasts seen more h =
    record { tree = h.tree; is = h.is; unframed = h.unframed; behind = h.behind ++ more; seen_is = more_behind (print_request h.tree) h.behind seen more h.seen_is }

pub bad_lasts : Lasts IsBad
bad_lasts seen more (inl (inl h)) = inl (inl (head_bad_lasts seen more h))
bad_lasts seen more (inl (inr h)) = inl (inr (unframed_lasts seen more h))
bad_lasts seen more (inr h) =
    inr (record { tree = h.tree; is = h.is; framing = h.framing; framed = h.framed; behind = Behind-lasts _ (IsBodyBad h.framing) (body_bad_lasts h.framing) seen more h.behind })
