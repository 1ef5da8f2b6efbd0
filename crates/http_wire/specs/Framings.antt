-- How long the body behind a head is (RFC 9112, section 6).
use Rattle.std.specs.Prelude.{ℕ, ◌^◌, Bool, ◌&&◌, nat_lt, List, [], ◌∷◌, Option, Some, None, if◌then◌else◌, codes}
use Rattle.std.specs.Str.{str_to_ascii_lowercase, bytes_eq}
use Rattle.std.specs.Str.Parse.{digits_value}
use Rattle.http_bytes.specs.Numbers.{is_number}
use Rattle.http_wire.specs.Heads.{values_of}
use Rattle.http_wire.specs.Lines.{Line}
use Rattle.http_wire.specs.declared.framing.Framing.{Framing}
use Rattle.http_wire.specs.declared.framing.Framing.TheVariants.{Length, Chunked}

-- 1*DIGIT below 2^63
abbrev pub is_length : List ℕ → Bool
is_length v = is_number v && nat_lt (digits_value 10 v) (2 ^ 63)

-- the number, where it is one
abbrev pub length_value : List ℕ → Option ℕ
length_value v = if is_length v then Some (digits_value 10 v) else None

-- the one coding that is known, without regard to case
abbrev pub is_chunked : List ℕ → Bool
is_chunked v = bytes_eq (str_to_ascii_lowercase v) (codes "chunked")

-- a body of that length
abbrev pub of_length : Option ℕ → Option Framing
of_length (Some n) = Some (Length n)
of_length None = None

-- by the values of Content-Length and of Transfer-Encoding: there is neither, or one line of one of them
abbrev pub framing_by : List (List ℕ) → List (List ℕ) → Option Framing
framing_by [] [] = Some (Length 0)
framing_by (v ∷ []) [] = of_length (length_value v)
framing_by [] (v ∷ []) = if is_chunked v then Some Chunked else None
framing_by _ _ = None

abbrev pub framing_of : List Line → Option Framing
framing_of lines = framing_by (values_of (codes "content-length") lines) (values_of (codes "transfer-encoding") lines)
