-- Digits, one by one.
use Rattle.std.proofs.Common.{◌≡◌, ℕ, ◌+◌, ◌-◌, ◌*◌, ◌^◌, ◌<◌, ◌≤◌, true, List, length, take, get_or, min, arith}
use Rattle.std.specs.List.{list_all}
use Rattle.std.specs.Char.{is_ascii_digit, digit_value}
use Rattle.std.specs.Str.Parse.{digits_value}
use Rattle.std.proofs.lemmas.Int.Digits.{digits_value_more}
use Rattle.std.proofs.lemmas.List.Sums.{AllPass-from_list_all}
use Rattle.std.proofs.lemmas.Bool.Decides.{nat_tests}

digit_value-digit : (b : ℕ) → is_ascii_digit b ≡ true → digit_value b ≡ b - 48
digit_value-digit b e = grind (arith, nat_tests)

capped_more : (n v d cap : ℕ) → cap ≤ 2 ^ 63 → n ≡ min v cap → min (min (min (n * 10) (2 ^ 64 - 1) + d) (2 ^ 64 - 1)) cap ≡ min (v * 10 + d) cap
capped_more n v d cap small e = omega arith

pub capped_value_more : (digits : List ℕ) (i n cap : ℕ) → i < length digits → cap ≤ 2 ^ 63 → list_all is_ascii_digit digits ≡ true
    → n ≡ min (digits_value 10 (take i digits)) cap
    → min (min (min (n * 10) (2 ^ 64 - 1) + (get_or digits i 0 - 48)) (2 ^ 64 - 1)) cap ≡ min (digits_value 10 (take (i + 1) digits)) cap
capped_value_more digits i n cap inside small all e =
    let digit : is_ascii_digit (get_or digits i 0) ≡ true = AllPass-from_list_all is_ascii_digit digits all i 0 inside in
    rw (digits_value_more 10 digits i inside, digit_value-digit _ digit) (capped_more n (digits_value 10 (take i digits)) (get_or digits i 0 - 48) cap small e)
