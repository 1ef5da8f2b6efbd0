-- Digits are text, and are written part by part.
use Rattle.std.proofs.Common.{◌≡◌, ℕ, ◌-◌, Bool, cond, eqb, true, false, List, [], ◌∷◌, ◌++◌, length, take, drop, slice_index, suc, refl, sym, ap, ◌∙◌, append_assoc, arith, inl, inr}
use Rattle.std.specs.Prelude.{nat_lt}
use Rattle.std.specs.Str.{IsAscii, IsUtf8}
use Rattle.std.proofs.lemmas.Bool.{cases_lt, ltb-true}
use Rattle.std.proofs.lemmas.List.{take_all, take-append-drop, length-drop}
use Rattle.std.proofs.lemmas.Str.{IsUtf8-from_ascii}
use Rattle.std.proofs.Math.ListN.{get_or-eq_default}
use Rattle.hex.specs.Hex.{encode_lower, lower_digits}
use Rattle.hex.proofs.HexLemmas.{IsAscii-encode_with}
use Rattle.push_model.specs.declared.ids.Token.{Token}
use Rattle.schedule_text.specs.Words.{token_word, trimmed}
use Rattle.schedule_text.proofs.DigitPairs.{encode-append, tested}

abbrev is_ascii_place : ℕ → Bool
is_ascii_place d = nat_lt (slice_index lower_digits d) 128

digits_are_ascii : IsAscii lower_digits
digits_are_ascii i =
    elim (cases_lt i 16) [
      | inl below ↦ ltb-true _ _ (tested is_ascii_place 16 i refl below)
      | inr above ↦
          let none : slice_index lower_digits i ≡ 0 = get_or-eq_default lower_digits 0 above in
          omega (arith, none)
    ]

pub encoded_utf8 : (bytes : List ℕ) → IsUtf8 (encode_lower bytes)
encoded_utf8 bytes = IsUtf8-from_ascii (encode_lower bytes) (IsAscii-encode_with lower_digits bytes digits_are_ascii)

kept_ascii : (b : Bool) (kept ds : List ℕ) → IsAscii kept → IsAscii ds → IsAscii (cond b kept ds)
kept_ascii true kept ds h g = h
kept_ascii false kept ds h g = g

trimmed_ascii : (ds : List ℕ) → IsAscii ds → IsAscii (trimmed ds)
unfolding trimmed
trimmed_ascii [] h = h
trimmed_ascii (d ∷ []) h = h
trimmed_ascii (d ∷ (e ∷ rest)) h = kept_ascii (eqb d 48) (trimmed (e ∷ rest)) (d ∷ (e ∷ rest)) (trimmed_ascii (e ∷ rest) (λ i. h (suc i))) h

pub token_utf8 : (t : Token) → IsUtf8 (token_word t)
token_utf8 t = IsUtf8-from_ascii (token_word t) (trimmed_ascii (encode_lower t.0) (IsAscii-encode_with lower_digits t.0 digits_are_ascii))

-- a few bytes more are spelled
pub spelled_more : (n : ℕ) (before after rest total : List ℕ) → after ≡ before ++ encode_lower (take n rest) → before ++ encode_lower rest ≡ total
    → after ++ encode_lower (take (length rest - n) (drop n rest)) ≡ total
spelled_more n before after rest total is so_far =
    let others : take (length rest - n) (drop n rest) ≡ drop n rest = take_all (length rest - n) (drop n rest) (omega (arith, length-drop n rest)) in
    let whole : encode_lower rest ≡ encode_lower (take n rest) ++ encode_lower (drop n rest) =
    ap encode_lower (sym (take-append-drop n rest)) ∙ encode-append lower_digits (take n rest) (drop n rest) in
    rw (others, is, append_assoc) (rw whole at so_far)
