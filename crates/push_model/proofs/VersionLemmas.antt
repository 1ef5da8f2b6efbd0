-- Versions, put together and read back.
use Rattle.std.proofs.Common.{◌≡◌, ℕ, zero, suc, ◌+◌, ◌<◌, ◌^◌, ◌==◌, Bool, true, false, cond, List, [], ◌∷◌, ◌++◌, length, take, drop, Option, Some, None, Result, Ok, Err, refl, ap, sym, ◌∙◌, arith}
use Rattle.std.specs.Prelude.{slice_index}
use Rattle.std.specs.Int.{w64, to_be_bytes, from_be_bytes}
use Rattle.std.specs.Str.{bytes_eq}
use Rattle.std.proofs.lemmas.List.{append-nil, length-append}
use Rattle.std.proofs.lemmas.Nat.{from_be_bytes-to_be_bytes_8}
use Rattle.std.proofs.lemmas.Bool.{eq-eqb}
use Rattle.std.proofs.lemmas.Slice.Eq.{bytes_eq-Decides}
use borrow.Rule.Slice.PartMut.{put_mid}
use Rattle.hex.specs.Hex.{encode_lower, decode_sized, lower_digits}
use Rattle.hex.specs.declared.error.FromHexError.{FromHexError}
use Rattle.hex.proofs.HexLemmas.{length-encode_with, decode_sized-encode_lower}
use Rattle.push_model.specs.declared.ids.MsgId.{MsgId}
use Rattle.push_model.specs.Versions.{version_text, spelled_as, version_from, version_of}

-- sixteen hyphens and one more
abbrev pub hyphens : List ℕ
hyphens = 45 ∷ 45 ∷ 45 ∷ 45 ∷ 45 ∷ 45 ∷ 45 ∷ 45 ∷ 45 ∷ 45 ∷ 45 ∷ 45 ∷ 45 ∷ 45 ∷ 45 ∷ 45 ∷ 45 ∷ []

pub number_put : (s n : List ℕ) → length s ≡ 2 → put_mid 3 16 (s ++ hyphens) n ≡ s ++ 45 ∷ n
number_put [] n two = absurd (omega arith)
number_put (a ∷ []) n two = absurd (omega arith)
number_put (a ∷ b ∷ []) n two = simp append-nil
number_put (a ∷ b ∷ c ∷ s) n two = absurd (omega arith)

-- ---- reading back

front_two : (a rest : List ℕ) → length a ≡ 2 → take 2 (a ++ rest) ≡ a
front_two [] rest two = absurd (omega arith)
front_two (x ∷ []) rest two = absurd (omega arith)
front_two (x ∷ y ∷ []) rest two = refl
front_two (x ∷ y ∷ z ∷ a) rest two = absurd (omega arith)

behind_three : (a n : List ℕ) → length a ≡ 2 → drop 3 (a ++ 45 ∷ n) ≡ n
behind_three [] n two = absurd (omega arith)
behind_three (x ∷ []) n two = absurd (omega arith)
behind_three (x ∷ y ∷ []) n two = refl
behind_three (x ∷ y ∷ z ∷ a) n two = absurd (omega arith)

number_bytes : (n i : ℕ) → slice_index (to_be_bytes w64 n) i < 256
number_bytes n zero = omega arith
number_bytes n (suc zero) = omega arith
number_bytes n (suc (suc zero)) = omega arith
number_bytes n (suc (suc (suc zero))) = omega arith
number_bytes n (suc (suc (suc (suc zero)))) = omega arith
number_bytes n (suc (suc (suc (suc (suc zero))))) = omega arith
number_bytes n (suc (suc (suc (suc (suc (suc zero)))))) = omega arith
number_bytes n (suc (suc (suc (suc (suc (suc (suc zero))))))) = omega arith
number_bytes n (suc (suc (suc (suc (suc (suc (suc (suc i)))))))) = omega arith

one_byte : (b i : ℕ) → b < 256 → slice_index (b ∷ []) i < 256
one_byte b zero fits = fits
one_byte b (suc i) fits = omega arith

-- a text that is the version of a message spells it
spelled_alike : (i : MsgId) (text : List ℕ) → bytes_eq (version_text i) text ≡ true → spelled_as i text ≡ Some i
spelled_alike i text e = rw e refl

abbrev shard_text : MsgId → List ℕ
shard_text i = encode_lower (i.shard ∷ [])

abbrev number_text : MsgId → List ℕ
number_text i = encode_lower (to_be_bytes w64 i.number)

shard_long : (i : MsgId) → length (shard_text i) ≡ 2
shard_long i = length-encode_with lower_digits (i.shard ∷ [])

number_long : (i : MsgId) → length (number_text i) ≡ 16
number_long i = length-encode_with lower_digits (to_be_bytes w64 i.number)

version_long : (i : MsgId) → length (version_text i) ≡ 19
version_long i = length-append (shard_text i) (45 ∷ number_text i) ∙ omega (arith, shard_long i, number_long i)

parts_read : (i : MsgId) → i.shard < 2 ^ 8 → i.number < 2 ^ 64
    → version_from (decode_sized (take 2 (version_text i)) 1) (decode_sized (drop 3 (version_text i)) 8) (version_text i) ≡ spelled_as i (version_text i)
parts_read i shard number =
    let front : take 2 (version_text i) ≡ shard_text i = front_two (shard_text i) _ (shard_long i) in
    let back : drop 3 (version_text i) ≡ number_text i = behind_three (shard_text i) (number_text i) (shard_long i) in
    let shard_read : decode_sized (shard_text i) 1 ≡ Ok (i.shard ∷ []) = decode_sized-encode_lower (i.shard ∷ []) 1 refl (λ k. one_byte i.shard k shard) in
    let number_read : decode_sized (number_text i) 8 ≡ Ok (to_be_bytes w64 i.number) = decode_sized-encode_lower (to_be_bytes w64 i.number) 8 refl (number_bytes i.number) in
    let same : from_be_bytes w64 (to_be_bytes w64 i.number) ≡ i.number = from_be_bytes-to_be_bytes_8 i.number number in
    rw (front, back, shard_read, number_read, same) refl

pub version_read : (i : MsgId) → i.shard < 2 ^ 8 → i.number < 2 ^ 64 → version_of (version_text i) ≡ Some i
version_read i shard number =
    let long : (length (version_text i) == 19) ≡ true = eq-eqb _ 19 (version_long i) in
    let same : bytes_eq (version_text i) (version_text i) ≡ true = (bytes_eq-Decides (version_text i) (version_text i)).1 refl in
    rw long (parts_read i shard number ∙ spelled_alike i (version_text i) same)

-- ---- only versions are read

spelled_is : (b : Bool) (i j : MsgId) (text : List ℕ) → bytes_eq (version_text i) text ≡ b → cond b (Some i) None ≡ Some j → text ≡ version_text j
spelled_is true i j text e h =
    let is : version_text i ≡ text = (bytes_eq-Decides (version_text i) text).0 e in
    let same : i ≡ j = cc in
    sym is ∙ ap version_text same
spelled_is false i j text e h = cc

from_is : (s n : Result (List ℕ) FromHexError) (text : List ℕ) (i : MsgId) → version_from s n text ≡ Some i → text ≡ version_text i
from_is (Err e) n text i h = cc
from_is (Ok s) (Err e) text i h = cc
from_is (Ok s) (Ok n) text i h = spelled_is _ _ i text refl h

long_is : (b : Bool) (text : List ℕ) (i : MsgId) → cond b (version_from (decode_sized (take 2 text) 1) (decode_sized (drop 3 text) 8) text) None ≡ Some i → text ≡ version_text i
long_is true text i h = from_is _ _ text i h
long_is false text i h = cc

pub version_only : (text : List ℕ) (i : MsgId) → version_of text ≡ Some i → text ≡ version_text i
version_only text i h = long_is _ text i h
