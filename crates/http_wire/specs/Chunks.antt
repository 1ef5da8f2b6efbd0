-- Chunked bodies (RFC 9112, section 7.1), and what reading one takes from the input.
use Rattle.std.specs.Prelude.{◌≡◌, ℕ, ◌+◌, ◌≤◌, ◌<◌, ◌⊎◌, All, List, ◌++◌, length, Option}
use Rattle.std.specs.List.{flat_map}
use Rattle.httparse.specs.Ascii.{crlf_bytes}
use Rattle.httparse.specs.Grammar.{LineEnd, Field, IsField, print_section, ChunkLine, IsChunkLine, print_chunk_line, chunk_size}
use Rattle.http_bytes.specs.Moves.{Takes}
use Rattle.http_bytes.specs.Breaks.{Behind, NeverOrFull, OpenWithin}
use Rattle.http_bytes.specs.Forms.{IsLineOpen, IsLineBad, IsDataOpen, IsDataBad, AreTrailersOpen, AreTrailersBad}
use Rattle.http_wire.specs.declared.chunk.Step.{Step}
use Rattle.http_wire.specs.declared.chunk.Step.TheVariants.{Data, Last, Over}
use Rattle.http_wire.specs.declared.chunk.Tail.{Tail}
use Rattle.http_wire.specs.declared.chunk.Tail.TheVariants as tail
use Rattle.http_wire.specs.declared.body.Body.{Body}
use Rattle.http_wire.specs.declared.body.Body.TheVariants.{Bytes, TooLong}

-- ---- the grammar

-- the most bytes of a body
abbrev pub most_body : ℕ
most_body = 4096

-- a line of at most 65,536 bytes that says this size
pub record IsSizeLine (line : ChunkLine) (size : ℕ) : Type 0 where
  pub form : IsChunkLine line
  pub short : length (print_chunk_line line) ≤ 65536
  pub says : chunk_size line ≡ size

-- its line, and its data
pub record Chunk : Type 0 where
  pub line : ChunkLine
  pub content : List ℕ

abbrev pub print_chunk : Chunk → List ℕ
print_chunk c = print_chunk_line c.line ++ (c.content ++ crlf_bytes)

pub record IsChunk (c : Chunk) : Type 0 where
  pub line : IsSizeLine c.line (length c.content)
  pub some : 0 < length c.content

abbrev pub print_chunks : List Chunk → List ℕ
print_chunks chunks = flat_map print_chunk chunks

abbrev pub data_of : List Chunk → List ℕ
data_of chunks = flat_map (λ c. c.content) chunks

-- chunks of at most 4,096 bytes together
pub record AreChunks (chunks : List Chunk) : Type 0 where
  pub each : All IsChunk chunks
  pub small : length (data_of chunks) ≤ most_body

-- at most 65,536 bytes and 100 lines
pub record AreTrailers (fields : List Field) (last : LineEnd) : Type 0 where
  pub each : All IsField fields
  pub short : length (print_section fields last) ≤ 65536
  pub few : length fields ≤ 100

-- the text of a chunked body: chunks, the line of the last one, and trailers
pub record IsChunkedText (text body : List ℕ) : Type 0 where
  pub chunks : List Chunk
  pub are : AreChunks chunks
  pub line : ChunkLine
  pub ends : IsSizeLine line 0
  pub trailers : List Field
  pub last : LineEnd
  pub passed : AreTrailers trailers last
  pub text_is : text ≡ (print_chunks chunks ++ print_chunk_line line) ++ print_section trailers last
  pub body_is : body ≡ data_of chunks

-- chunks, and the line of one more that brings the sum over 4,096
pub record IsOverlongText (text : List ℕ) : Type 0 where
  pub chunks : List Chunk
  pub are : AreChunks chunks
  pub line : ChunkLine
  pub size : ℕ
  pub says : IsSizeLine line size
  pub over : most_body < length (data_of chunks) + size
  pub text_is : text ≡ print_chunks chunks ++ print_chunk_line line

-- the text of a chunked body, up to where it is known to be too long
abbrev pub IsChunkedBody : List ℕ → Body → Type 0
IsChunkedBody text (Bytes body) = IsChunkedText text body
IsChunkedBody text TooLong = IsOverlongText text

-- ---- what is taken from the input

pub record TakesLine (before after : Option (List ℕ)) (old new : List ℕ) (size : ℕ) : Type 0 where
  pub line : ChunkLine
  pub says : IsSizeLine line size
  pub takes : Takes before after old new (print_chunk_line line)

pub record TakesData (before after : Option (List ℕ)) (old new was body : List ℕ) (size : ℕ) : Type 0 where
  pub content : List ℕ
  pub size_is : length content ≡ size
  pub takes : Takes before after old new (content ++ crlf_bytes)
  pub body_is : body ≡ was ++ content

pub record TakesChunk (before after : Option (List ℕ)) (old new was body : List ℕ) : Type 0 where
  pub chunk : Chunk
  pub is : IsChunk chunk
  pub takes : Takes before after old new (print_chunk chunk)
  pub body_is : body ≡ was ++ chunk.content
  pub small : length body ≤ most_body

pub record TakesOver (before after : Option (List ℕ)) (old new was : List ℕ) : Type 0 where
  pub size : ℕ
  pub line : TakesLine before after old new size
  pub over : most_body < length was + size

abbrev pub TakesStep : Step → Option (List ℕ) → Option (List ℕ) → List ℕ → List ℕ → List ℕ → List ℕ → Type 0
TakesStep Data before after old new was body = TakesChunk before after old new was body
TakesStep Last before after old new was body = TakesLine before after old new 0 × (body ≡ was)
TakesStep Over before after old new was body = TakesOver before after old new was

-- chunks that were read, whose data is the body
pub record TakesSome (before after : Option (List ℕ)) (old new body : List ℕ) : Type 0 where
  pub chunks : List Chunk
  pub are : AreChunks chunks
  pub takes : Takes before after old new (print_chunks chunks)
  pub body_is : body ≡ data_of chunks

pub record TakesUpToLast (before after : Option (List ℕ)) (old new body : List ℕ) : Type 0 where
  pub chunks : List Chunk
  pub are : AreChunks chunks
  pub line : ChunkLine
  pub ends : IsSizeLine line 0
  pub takes : Takes before after old new (print_chunks chunks ++ print_chunk_line line)
  pub body_is : body ≡ data_of chunks

pub record TakesOverlong (before after : Option (List ℕ)) (old new : List ℕ) : Type 0 where
  pub text : List ℕ
  pub is : IsOverlongText text
  pub takes : Takes before after old new text

abbrev pub TakesChunks : Tail → Option (List ℕ) → Option (List ℕ) → List ℕ → List ℕ → List ℕ → Type 0
TakesChunks tail.Last before after old new body = TakesUpToLast before after old new body
TakesChunks tail.Over before after old new body = TakesOverlong before after old new

pub record TakesTrailers (before after : Option (List ℕ)) (old new : List ℕ) : Type 0 where
  pub trailers : List Field
  pub last : LineEnd
  pub passed : AreTrailers trailers last
  pub takes : Takes before after old new (print_section trailers last)

pub record TakesChunked (before after : Option (List ℕ)) (old new : List ℕ) (body : Body) : Type 0 where
  pub text : List ℕ
  pub is : IsChunkedBody text body
  pub takes : Takes before after old new text

-- ---- where reading may break off

-- behind a line that says a size for which there is room, P holds
pub record InData (used : ℕ) (P : ℕ → List ℕ → Type 0) (seen : List ℕ) : Type 0 where
  pub line : ChunkLine
  pub size : ℕ
  pub says : IsSizeLine line size
  pub some : 0 < size
  pub room : used + size ≤ most_body
  pub behind : Behind (print_chunk_line line) (P size) seen

-- part of a chunk, where so many bytes of data were read before
abbrev pub IsChunkOpen : ℕ → List ℕ → Type 0
IsChunkOpen used seen = OpenWithin IsLineOpen seen ⊎ InData used IsDataOpen seen

-- no chunk, whatever follows, or none whose line has at most 65,536 bytes
abbrev pub IsChunkBad : ℕ → List ℕ → Type 0
IsChunkBad used seen = NeverOrFull IsLineOpen IsLineBad seen ⊎ InData used IsDataBad seen

-- behind chunks P holds
pub record BehindChunks (P : ℕ → List ℕ → Type 0) (seen : List ℕ) : Type 0 where
  pub chunks : List Chunk
  pub are : AreChunks chunks
  pub behind : Behind (print_chunks chunks) (P (length (data_of chunks))) seen

abbrev pub AreChunksOpen : List ℕ → Type 0
AreChunksOpen seen = BehindChunks IsChunkOpen seen

abbrev pub AreChunksBad : List ℕ → Type 0
AreChunksBad seen = BehindChunks IsChunkBad seen

-- behind the line of the last chunk P holds
pub record BehindLast (P : List ℕ → Type 0) (seen : List ℕ) : Type 0 where
  pub chunks : List Chunk
  pub are : AreChunks chunks
  pub line : ChunkLine
  pub ends : IsSizeLine line 0
  pub behind : Behind (print_chunks chunks ++ print_chunk_line line) P seen

abbrev pub IsChunkedOpen : List ℕ → Type 0
IsChunkedOpen seen = AreChunksOpen seen ⊎ BehindLast (OpenWithin AreTrailersOpen) seen

abbrev pub IsChunkedBad : List ℕ → Type 0
IsChunkedBad seen = AreChunksBad seen ⊎ BehindLast (NeverOrFull AreTrailersOpen AreTrailersBad) seen
