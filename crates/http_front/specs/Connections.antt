-- When a request is the last of its connection (RFC 9112, section 9.3).
use Rattle.std.specs.Prelude.{ℕ, Bool, ◌==◌, ◌||◌, ◌&&◌, nat_le, List, [], ◌∷◌, take, drop, length, if◌then◌else◌, codes}
use Rattle.std.specs.List.{list_all, list_any, slice_split}
use Rattle.std.specs.Str.{str_to_ascii_lowercase, bytes_eq}
use Rattle.http_wire.specs.Lines.{Line}
use Rattle.http_wire.specs.HeadValue.{HeadValue}

-- a space or a tab
abbrev pub is_blank : ℕ → Bool
is_blank b = (b == 32) || (b == 9)

abbrev pub is_comma : ℕ → Bool
is_comma b = b == 44

-- what stands behind the blanks in front
abbrev pub skip_blanks : List ℕ → List ℕ
skip_blanks [] = []
skip_blanks (b ∷ bytes) = if is_blank b then skip_blanks bytes else b ∷ bytes

-- the word close, in any case, and blanks round it
abbrev pub begins_close : List ℕ → Bool
begins_close word = nat_le 5 (length word) && (bytes_eq (str_to_ascii_lowercase (take 5 word)) (codes "close") && list_all is_blank (drop 5 word))

abbrev pub is_close : List ℕ → Bool
is_close member = begins_close (skip_blanks member)

-- one of the members of a list, which stand between its commas
abbrev pub asks_close : List ℕ → Bool
asks_close list = list_any is_close (slice_split is_comma list)

-- A line Connection that names close. All lines of that name are one list, so one of them is enough.
abbrev pub is_close_line : Line → Bool
is_close_line l = bytes_eq l.name (codes "connection") && asks_close l.value

-- a request of HTTP/1.0, or one that asks for the end
abbrev pub is_last : HeadValue → Bool
is_last h = (h.minor == 0) || list_any is_close_line h.lines
