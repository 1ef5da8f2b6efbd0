-- Numbers of decimal digits in header lines.
use Rattle.std.specs.Prelude.{ℕ, Bool, ◌&&◌, nat_lt, min, List, length, Option, Some, None, if◌then◌else◌}
use Rattle.std.specs.List.{list_all}
use Rattle.std.specs.Char.{is_ascii_digit}
use Rattle.std.specs.Str.Parse.{digits_value}

-- 1*DIGIT
abbrev pub is_number : List ℕ → Bool
is_number text = nat_lt 0 (length text) && list_all is_ascii_digit text

-- the number that the digits say, or the cap where it is greater
abbrev pub number_of : ℕ → List ℕ → Option ℕ
number_of cap text = if is_number text then Some (min (digits_value 10 text) cap) else None
