-- Texts of 32 characters, and the 24 bytes that each spells.
use Rattle.std.proofs.Common.{◌≡◌, ℕ, zero, suc, ◌+◌, ◌*◌, ◌/◌, ◌%◌, ◌<◌, ◌≤◌, ◌==◌, Bool, true, false, not, List, [], ◌∷◌, ◌++◌, length, take, slice_index, None, Ok, Err, refl, sym, ap, ◌∙◌, arith}
use Rattle.std.specs.Prelude.{◌&&◌, ◌||◌, nat_lt}
use Rattle.std.specs.List.{list_all}
use Rattle.std.proofs.lemmas.List.{append-nil, length-take, take_all}
use Rattle.std.proofs.lemmas.Bool.{eqb-true, eq-eqb, false_from_ne_true, ltb-true, ne_eqb}
use Rattle.std.proofs.lemmas.Bool.Decides.{nat_tests}
use Rattle.base64.specs.declared.decode.DecodeError.{DecodeError}
use Rattle.base64.specs.declared.engine.general_purpose.GeneralPurpose.{GeneralPurpose}
use Rattle.base64.specs.Rfc4648.{encode_symbols}
use Rattle.base64.specs.Tables.{all_below, is_inverse}
use Rattle.base64.specs.Decode.{decode_group, group_bytes, group_error, groups_bytes, groups_error}
use Rattle.base64.specs.GeneralPurpose.{IsBytes, IsConsistent, IsStrict, decode_of, encode_of}
use Rattle.base64.specs.Engines.{url_safe_no_pad}
use Rattle.base64.proofs.Canonical.{take_groups}
use Rattle.base64.proofs.EngineFacts.{decode_of-encode_of, decode_of_strict}
use Rattle.base64.proofs.RoundTrip.{length-encode_symbols}
use Rattle.base64.proofs.Tables.{all_below_at, are_tables_inverse}
use Rattle.push_model.specs.declared.ids.Token.{Token}
use Rattle.push_model.specs.Topics.{is_topic_byte}
use Rattle.endpoint_token.specs.TokenTexts.{IsToken, is_token_text, spelled}

-- ---- what decodes

-- each character is a symbol
abbrev pub AllSymbols : List ℕ → List ℕ → Type 0
AllSymbols dec s = (i : ℕ) → i < length s → (slice_index dec (slice_index s i) == 255) ≡ false

group_error_none : (dec s : List ℕ) (i : ℕ) → AllSymbols dec s → i + 4 ≤ length s → group_error dec s i ≡ None
group_error_none dec s i all fits = rw (all i (omega arith), all (i + 1) (omega arith), all (i + 2) (omega arith), all (i + 3) (omega arith)) refl

pub groups_error_none : (dec s : List ℕ) (q : ℕ) → AllSymbols dec s → 4 * q ≤ length s → groups_error dec s q ≡ None
unfolding groups_error
groups_error_none dec s zero all fits = refl
groups_error_none dec s (suc q) all fits = rw (groups_error_none dec s q all (omega arith), group_error_none dec s (4 * q) all (omega arith)) refl

-- 32 symbols are those of the 24 bytes
pub symbols_back : (enc dec s : List ℕ) → is_inverse enc dec ≡ true → IsBytes s → length s ≡ 32 → AllSymbols dec s → s ≡ encode_symbols enc (groups_bytes dec s 8)
symbols_back enc dec s inv bytes long all =
    let fits : 4 * 8 ≤ length s = omega arith in
    sym (take_all (4 * 8) s (omega arith)) ∙ take_groups enc dec s 8 inv bytes fits (groups_error_none dec s 8 all fits)

-- ---- what a group decodes to is bytes

group_is_bytes : (m0 m1 m2 m3 : ℕ) → m0 < 64 → m1 < 64 → m2 < 64 → m3 < 64 → IsBytes (decode_group m0 m1 m2 m3)
group_is_bytes m0 m1 m2 m3 l0 l1 l2 l3 zero = omega arith
group_is_bytes m0 m1 m2 m3 l0 l1 l2 l3 (suc zero) = omega arith
group_is_bytes m0 m1 m2 m3 l0 l1 l2 l3 (suc (suc zero)) = omega arith
group_is_bytes m0 m1 m2 m3 l0 l1 l2 l3 (suc (suc (suc i))) = omega arith

IsBytes-append : (a b : List ℕ) → IsBytes a → IsBytes b → IsBytes (a ++ b)
IsBytes-append [] b ha hb i = hb i
IsBytes-append (x ∷ a) b ha hb zero = ha 0
IsBytes-append (x ∷ a) b ha hb (suc i) = IsBytes-append a b (λ k. ha (suc k)) hb i

pub groups_are_bytes : (dec s : List ℕ) (q : ℕ) → ((i : ℕ) → i < length s → slice_index dec (slice_index s i) < 64) → 4 * q ≤ length s → IsBytes (groups_bytes dec s q)
unfolding groups_bytes
groups_are_bytes dec s zero low fits i = omega arith
groups_are_bytes dec s (suc q) low fits i =
    let four : 4 * q + 4 ≤ length s = omega arith in
    IsBytes-append (groups_bytes dec s q) (group_bytes dec s (4 * q)) (groups_are_bytes dec s q low (omega arith))
    (group_is_bytes _ _ _ _ (low (4 * q) (omega arith)) (low (4 * q + 1) (omega arith)) (low (4 * q + 2) (omega arith)) (low (4 * q + 3) (omega arith))) i

-- ---- characters

both_first : (a b : Bool) → (a && b) ≡ true → a ≡ true
both_first true b h = refl
both_first false b h = cc

both_second : (a b : Bool) → (a && b) ≡ true → b ≡ true
both_second true b h = h
both_second false b h = cc

pub each_passes : (p : ℕ → Bool) (xs : List ℕ) → list_all p xs ≡ true → (i : ℕ) → i < length xs → p (slice_index xs i) ≡ true
each_passes p [] h i lt = absurd (omega arith)
each_passes p (x ∷ xs) h zero lt = both_first (p x) (list_all p xs) h
each_passes p (x ∷ xs) h (suc i) lt = each_passes p xs (both_second (p x) (list_all p xs) h) i (omega arith)

-- each character of what is encoded is one of the 64
pub list_all-encode_symbols : (p : ℕ → Bool) (t m : List ℕ) → ((k : ℕ) → k < 64 → p (slice_index t k) ≡ true) → IsBytes m → list_all p (encode_symbols t m) ≡ true
unfolding encode_symbols
list_all-encode_symbols p t [] h bytes = refl
list_all-encode_symbols p t (a ∷ []) h bytes =
    let a_byte : a < 256 = bytes 0 in
    rw (h (a / 4) (omega arith), h (a % 4 * 16) (omega arith)) refl
list_all-encode_symbols p t (a ∷ b ∷ []) h bytes =
    let a_byte : a < 256 = bytes 0 in
    let b_byte : b < 256 = bytes 1 in
    rw (h (a / 4) (omega arith), h (a % 4 * 16 + b / 16) (omega arith), h (b % 16 * 4) (omega arith)) refl
list_all-encode_symbols p t (a ∷ b ∷ c ∷ rest) h bytes =
    let a_byte : a < 256 = bytes 0 in
    let b_byte : b < 256 = bytes 1 in
    let c_byte : c < 256 = bytes 2 in
    rw (h (a / 4) (omega arith), h (a % 4 * 16 + b / 16) (omega arith), h (b % 16 * 4 + c / 64) (omega arith), h (c % 64) (omega arith))
    (list_all-encode_symbols p t rest h (λ k. bytes (suc (suc (suc k)))))

-- ---- the alphabet

-- the symbol of that number is of the alphabet
abbrev is_written : ℕ → Bool
is_written k = is_topic_byte (slice_index (url_safe_no_pad).encode_table k)

symbols_pass : all_below is_written 64 ≡ true
symbols_pass = refl

-- a character of the alphabet is a symbol
abbrev is_read : ℕ → Bool
is_read x = not (is_topic_byte x) || nat_lt (slice_index (url_safe_no_pad).decode_table x) 64

bytes_read : all_below is_read 256 ≡ true
bytes_read = refl

below_from : (a b : Bool) (m : ℕ) → (not a || b) ≡ true → a ≡ true → b ≡ true
below_from true b m h e = h
below_from false b m h e = cc

topic_byte_low : (x : ℕ) → is_topic_byte x ≡ true → x < 256
topic_byte_low x h = grind (arith, nat_tests)

symbol_of : (x : ℕ) → is_topic_byte x ≡ true → slice_index (url_safe_no_pad).decode_table x < 64
symbol_of x h = ltb-true _ _ (below_from (is_topic_byte x) _ 0 (all_below_at is_read 256 x bytes_read (topic_byte_low x h)) h)

-- ---- any engine without padding

length-encode_of : (e : GeneralPurpose) (b : List ℕ) → e.config.encode_padding ≡ false → length (encode_of e b) ≡ (4 * length b + 2) / 3
length-encode_of e b none = rw (none, append-nil (encode_symbols e.encode_table b)) (length-encode_symbols e.encode_table b)

encoded_alike : (e : GeneralPurpose) (a b : List ℕ) → IsConsistent e → IsBytes a → IsBytes b → encode_of e a ≡ encode_of e b → a ≡ b
encoded_alike e a b consistent a_bytes b_bytes same =
    let back = sym (decode_of-encode_of e a consistent a_bytes) ∙ ap (decode_of e) same ∙ decode_of-encode_of e b consistent b_bytes in
    cc back

-- 32 characters that decode are those of 24 bytes
decoded_whole : (e : GeneralPurpose) (s new : List ℕ) (n : ℕ) → IsStrict e → e.config.encode_padding ≡ false → length s ≡ 32 → length new ≡ 24 → IsBytes s → decode_of e s ≡ Ok (take n new) → s ≡ encode_of e new
decoded_whole e s new n strict none long room bytes ok =
    let is : s ≡ encode_of e (take n new) = decode_of_strict e s (take n new) strict bytes ok in
    let count : 32 ≡ (4 * length (take n new) + 2) / 3 = sym long ∙ ap length is ∙ length-encode_of e (take n new) none in
    let all : take n new ≡ new = take_all n new (omega (arith, length-take n new)) in
    is ∙ ap (encode_of e) all

-- 32 symbols decode
decodes : (e : GeneralPurpose) (s : List ℕ) → IsConsistent e → e.config.encode_padding ≡ false → IsBytes s → length s ≡ 32 → ((i : ℕ) → i < length s → slice_index e.decode_table (slice_index s i) < 64) → (b : List ℕ) × (decode_of e s ≡ Ok b)
decodes e s consistent none bytes long low =
    let b : List ℕ = groups_bytes e.decode_table s 8 in
    let all : AllSymbols e.decode_table s = λ i lt. let h = low i lt in ne_eqb _ 255 (omega arith) in
    let back : s ≡ encode_symbols e.encode_table b = symbols_back e.encode_table e.decode_table s (are_tables_inverse e.encode_table e.decode_table e.padding.value e.tables) bytes long all in
    let encoded : encode_of e b ≡ encode_symbols e.encode_table b = rw none (append-nil (encode_symbols e.encode_table b)) in
    let b_bytes : IsBytes b = groups_are_bytes e.decode_table s 8 low (omega arith) in
    (b, ap (decode_of e) (back ∙ sym encoded) ∙ decode_of-encode_of e b consistent b_bytes)

-- ---- tokens

pub length-spelled : (t : Token) → IsToken t → length (spelled t) ≡ 32
unfolding spelled
length-spelled t token = length-encode_of url_safe_no_pad t.0 refl ∙ ap (λ n. (4 * n + 2) / 3) token.long

pub is_token_text-spelled : (t : Token) → IsToken t → is_token_text (spelled t) ≡ true
unfolding spelled
is_token_text-spelled t token =
    let long : (length (encode_of url_safe_no_pad t.0) == 32) ≡ true = eq-eqb _ 32 (length-spelled t token) in
    let symbols : list_all is_topic_byte (encode_symbols (url_safe_no_pad).encode_table t.0) ≡ true = list_all-encode_symbols is_topic_byte _ t.0 (λ k lt. all_below_at is_written 64 k symbols_pass lt) token.bytes in
    let all : list_all is_topic_byte (encode_of url_safe_no_pad t.0) ≡ true = ap (list_all is_topic_byte) (append-nil (encode_symbols (url_safe_no_pad).encode_table t.0)) ∙ symbols in
    rw long all

-- no two tokens are spelled alike
pub spelled_alike : (s t : Token) → IsToken s → IsToken t → spelled s ≡ spelled t → s ≡ t
unfolding spelled
spelled_alike s t s_token t_token same = ap (λ (b : List ℕ). let u : Token = record { 0 = b } in u) (encoded_alike url_safe_no_pad s.0 t.0 refl s_token.bytes t_token.bytes same)

pub spelled_by : (s new : List ℕ) (n : ℕ) → length s ≡ 32 → length new ≡ 24 → IsBytes s → decode_of url_safe_no_pad s ≡ Ok (take n new) → s ≡ spelled (record { 0 = new })
unfolding spelled
spelled_by s new n long room bytes ok = decoded_whole url_safe_no_pad s new n (refl, refl) refl long room bytes ok

refused_no_text : (s : List ℕ) (e : DecodeError) → IsBytes s → decode_of url_safe_no_pad s ≡ Err e → is_token_text s ≡ true → ⊥
refused_no_text s e bytes err text =
    let long : length s ≡ 32 = eqb-true _ 32 (both_first (length s == 32) (list_all is_topic_byte s) text) in
    let each = each_passes is_topic_byte s (both_second (length s == 32) (list_all is_topic_byte s) text) in
    let ok = decodes url_safe_no_pad s refl refl bytes long (λ i lt. symbol_of (slice_index s i) (each i lt)) in
    let bad = sym err ∙ ok.1 in
    cc bad

pub refused : (s : List ℕ) (e : DecodeError) → IsBytes s → decode_of url_safe_no_pad s ≡ Err e → is_token_text s ≡ false
refused s e bytes err = false_from_ne_true _ (refused_no_text s e bytes err)
