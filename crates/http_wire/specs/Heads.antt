-- Heads of requests (RFC 9112, sections 2 to 5), as callers see them.
use Rattle.std.specs.Prelude.{◌≡◌, ℕ, ◌≤◌, true, Bool, List, [], ◌∷◌, length, take, map, filter}
use Rattle.std.specs.Str.{str_to_ascii_lowercase, bytes_eq}
use Rattle.httparse.specs.declared.spans.HeaderSpan.{HeaderSpan}
use Rattle.httparse.specs.declared.spans.RequestSpans.{RequestSpans}
use Rattle.httparse.specs.Spans.{span_bytes}
use Rattle.httparse.specs.Grammar.{Field, field_value, RequestHead, IsRequestHead, print_request}
use Rattle.http_wire.specs.Lines.{Line}
use Rattle.http_wire.specs.declared.head.Lone.{Lone}
use Rattle.http_wire.specs.declared.head.Lone.TheVariants.{Absent, One, Several}
use Rattle.http_wire.specs.HeadValue.{HeadValue}

-- a line: its name in lower case, and its value without the white space around it
abbrev pub line_of : Field → Line
line_of f = record { name = str_to_ascii_lowercase f.name; value = field_value f }

abbrev pub lines_of : List Field → List Line
lines_of fields = map line_of fields

abbrev pub value_of : RequestHead → Bool → HeadValue
value_of h empty =
    record { method = h.method; target = h.target; lines = lines_of h.fields; minor = h.minor; body_empty = empty }

-- a head of at most 65,536 bytes, the empty lines before it among them, and of at most 100 lines
pub record IsHead (h : RequestHead) : Type 0 where
  pub form : IsRequestHead h
  pub short : length (print_request h) ≤ 65536
  pub few : length h.fields ≤ 100

-- ---- the lines of one name

-- their values, in order
abbrev pub values_of : List ℕ → List Line → List (List ℕ)
values_of name lines = map (λ l. l.value) (filter (λ l. bytes_eq l.name name) lines)

-- none, one with this value, or more
abbrev pub IsLone : Lone → List (List ℕ) → Type 0
IsLone Absent values = values ≡ []
IsLone (One v) values = values ≡ v.now ∷ []
IsLone Several values = (a : List ℕ) × (b : List ℕ) × (more : List (List ℕ)) × (values ≡ a ∷ b ∷ more)

-- ---- a head whose parts stand at these places of some bytes

abbrev pub line_at : List ℕ → HeaderSpan → Line
line_at bytes s = record { name = str_to_ascii_lowercase (span_bytes bytes s.name); value = span_bytes bytes s.value }

abbrev pub lines_at : List ℕ → List HeaderSpan → List Line
lines_at bytes spans = map (line_at bytes) spans

abbrev pub head_at : List ℕ → List HeaderSpan → RequestSpans → HeadValue
head_at bytes lines r =
    record {
      method = span_bytes bytes r.method;
      target = span_bytes bytes r.path;
      lines = lines_at bytes (take r.headers lines);
      minor = r.version;
      body_empty = true;
    }
