-- The texts of a head, one behind the other.
use Rattle.std.specs.Prelude.{◌≡◌, ℕ, List, ◌++◌, length, map}
use Rattle.httparse.specs.declared.spans.Span.{Span}
use Rattle.httparse.specs.declared.spans.HeaderSpan.{HeaderSpan}
use Rattle.httparse.specs.Spans.{span_bytes}
use Rattle.http_wire.specs.Lines.{Line}

-- what stood there stays
abbrev pub Grows : List ℕ → List ℕ → Type 0
Grows before after = (more : List ℕ) × (after ≡ before ++ more)

-- the piece came behind the texts, and stands there now
pub record Adds (piece before after : List ℕ) (at : Span) : Type 0 where
  pub grows : after ≡ before ++ piece
  pub start : at.start ≡ length before
  pub end : at.end ≡ length after

-- the line that stands there
abbrev pub line_in : List ℕ → HeaderSpan → Line
line_in texts s = record { name = span_bytes texts s.name; value = span_bytes texts s.value }

abbrev pub lines_in : List ℕ → List HeaderSpan → List Line
lines_in texts spans = map (line_in texts) spans
