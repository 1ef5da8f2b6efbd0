-- The laws of the values of words.
use Rattle.std.proofs.Common.{◌≡◌, ℕ, zero, suc, ◌+◌, ◌-◌, ◌*◌, ◌/◌, ◌%◌, ◌^◌, ◌<◌, ◌≤◌, Bool, true, false, cond, ltb, leb, eqb, ◌&&◌, List, [], ◌∷◌, ◌++◌, length, get_or, replicate, Option, Some, None, Result, Ok, Err, refl, sym, ap, subst, ◌∙◌, arith, inl, inr, ◌⊎◌, length-append}
use Rattle.std.specs.Prelude.{IfSome, decimal, codes}
use Rattle.std.specs.Fmt.{digits}
use Rattle.std.specs.List.{list_all}
use Rattle.std.specs.Char.{digit_value}
use Rattle.std.specs.Str.Parse.{AllDigits}
use Rattle.std.specs.Str.{bytes_eq}
use Rattle.std.proofs.lemmas.Bool.{ne_eqb, ltb-true, lt-ltb, leb-true, le-leb, and_parts, cases_Bool}
use Rattle.std.proofs.lemmas.List.{length-replicate}
use Rattle.std.proofs.lemmas.Slice.Eq.{bytes_eq-Decides}
use Rattle.hex.specs.Hex.{encode_lower, encode_with, lower_digits, decode_of, decode_sized}
use Rattle.hex.specs.declared.error.FromHexError.{FromHexError}
use Rattle.hex.proofs.HexLemmas.{decode_of-ok, decode_of-encode_lower, decode_sized-ok, decode_sized-twice, decode_sized-encode_lower, length-encode_with}
use Rattle.push_model.specs.declared.ask.Urgency.{Urgency}
use Rattle.push_model.specs.declared.ask.Urgency.TheVariants.{VeryLow, Low, Normal, High}
use Rattle.push_model.specs.declared.ids.Token.{Token}
use Rattle.push_model.specs.Topics.{is_topic, is_topic_byte, IsTopic}
use Rattle.schedule_text.specs.Spelling.{IsToken, IsPayload}
use Rattle.schedule_text.specs.Words.{word, hex, token_word, topic_word, urgency_word, payload_word, trimmed}
use Rattle.schedule_text.specs.Reading.{is_space, padded, numeral_value, decimal_value, token_value, checked_token, topic_value, urgency_value, payload_value, checked_payload, is_digit, decoded, AreNumeral, hex_at, decimal_at, token_at, topic_at, urgency_at, payload_at}
use Rattle.schedule_text.proofs.Fields.{bind_some, if_some, some_is, chosen, NoSpace, Value, Field, field}
use Rattle.schedule_text.proofs.Numerals.{IsBase, base10, base16, digits_are, value_some, value_takes}
use Rattle.schedule_text.proofs.DigitPairs.{decodes, decoded-nil, length-decoded, encoded_digits, spelled_bytes}
use Rattle.schedule_text.proofs.Zeros.{length-trimmed, zeros_come_back, trimmed_numeral, numeral_trimmed, padded_digits}

is_that : (w name : List ℕ) → bytes_eq w name ≡ true → w ≡ name
is_that w name h = (bytes_eq-Decides w name).0 h

is_not : (w name : List ℕ) → (w ≡ name → ⊥) → bytes_eq w name ≡ false
is_not w name h =
    elim (cases_Bool (bytes_eq w name)) [
      | inl same ↦ absurd (h (is_that w name same))
      | inr other ↦ other
    ]

is_itself : (w : List ℕ) → bytes_eq w w ≡ true
is_itself w = (bytes_eq-Decides w w).1 refl

none_unless : {A : Type 0} (o : Option A) → ((x : A) → o ≡ Some x → ⊥) → o ≡ None
none_unless (Some x) h = absurd (h x refl)
none_unless None h = refl

-- ---- numbers

not_space : (c : ℕ) → digit_value c < 16 → is_space c ≡ false
not_space c h = ne_eqb c 32 (λ e. absurd (omega (arith, subst (λ (d : ℕ). digit_value d < 16) e h)))

digits_no_space : (base : ℕ) (w : List ℕ) → base ≤ 16 → AllDigits base w → NoSpace w
digits_no_space base [] le h = tt
digits_no_space base (c ∷ cs) le h = (not_space c (omega (arith, h.0)), digits_no_space base cs le h.1)

numeral : (base limit : ℕ) → IsBase base limit → Value (numeral_value base limit) (λ n. digits base false n) (λ n. n < limit)
numeral base limit b = record {
  takes = λ w n e. let t = value_takes base limit w n e in (t.1, t.0);
  again = λ n lt. value_some base limit n (digits base false n) b lt refl;
  no_space = λ n lt. digits_no_space base (digits base false n) b.high (digits_are base limit n (digits base false n) b lt refl).0.1;
}

pub hex_field : Field hex_at (λ n. word (hex n)) (λ n. n < 2 ^ 128)
unfolding hex_at
hex_field = field (numeral_value 16 (2 ^ 128)) hex (λ n. n < 2 ^ 128) (numeral 16 (2 ^ 128) base16)

between : (low high : ℕ) → high < 2 ^ 64 → Value (decimal_value low high) decimal (λ n. (low ≤ n) × (n ≤ high))
unfolding decimal_value
between low high lt =
    let b = base10 (high + 1) (omega arith) in
    record {
      takes = λ w n e.
          let a = bind_some (numeral_value 10 (high + 1) w) (λ n. cond (leb low n) (Some n) None) n e in
          let p = if_some (leb low a.0) (Some a.0) n a.2 in
          let same = some_is a.0 n p.1 in
          let t = value_takes 10 (high + 1) w a.0 a.1 in
          (t.1 ∙ ap decimal same, (omega (arith, leb-true low a.0 p.0, same), omega (arith, t.0, same)));
      again = λ n h. rw (value_some 10 (high + 1) n (decimal n) b (omega (arith, h.1)) refl, le-leb low n h.0) refl;
      no_space = λ n h. (numeral 10 (high + 1) b).no_space n (omega (arith, h.1));
    }

pub decimal_field : (low high : ℕ) → high < 2 ^ 64 → Field (decimal_at low high) (λ n. word (decimal n)) (λ n. (low ≤ n) × (n ≤ high))
unfolding decimal_at
decimal_field low high lt = field (decimal_value low high) decimal (λ n. (low ≤ n) × (n ≤ high)) (between low high lt)

-- ---- digits of bytes

read_no_space : (t : List ℕ) → NoSpace t → (i : ℕ) → is_space (get_or t i 0) ≡ false
read_no_space [] h i = refl
read_no_space (b ∷ t) h zero = h.0
read_no_space (b ∷ t) h (suc i) = read_no_space t h.1 i

encoded_no_space : (t bytes : List ℕ) → NoSpace t → NoSpace (encode_with t bytes)
unfolding encode_with
encoded_no_space t [] h = tt
encoded_no_space t (b ∷ bytes) h = (read_no_space t h (b / 16), (read_no_space t h (b % 16), encoded_no_space t bytes h))

digits_have_no_space : NoSpace lower_digits
digits_have_no_space = (refl, (refl, (refl, (refl, (refl, (refl, (refl, (refl, (refl, (refl, (refl, (refl, (refl, (refl, (refl, (refl, tt))))))))))))))))

-- ---- tokens

chosen_no_space : (b : Bool) (kept ds : List ℕ) → NoSpace kept → NoSpace ds → NoSpace (cond b kept ds)
chosen_no_space true kept ds h g = h
chosen_no_space false kept ds h g = g

trimmed_no_space : (ds : List ℕ) → NoSpace ds → NoSpace (trimmed ds)
unfolding trimmed
trimmed_no_space [] h = tt
trimmed_no_space (d ∷ []) h = h
trimmed_no_space (d ∷ (e ∷ rest)) h = chosen_no_space (eqb d 48) (trimmed (e ∷ rest)) (d ∷ (e ∷ rest)) (trimmed_no_space (e ∷ rest) h.1) h

checked_token_takes : (w : List ℕ) (t : Token) (r : Result (List ℕ) FromHexError) → decode_sized (padded w) 24 ≡ r → checked_token w r ≡ Some t → (w ≡ token_word t) × IsToken t
checked_token_takes w t (Err d) was e = absurd cc
checked_token_takes w t (Ok bytes) was e =
    let g = if_some (bytes_eq (token_word (record { 0 = bytes })) w) (Some (record { 0 = bytes })) t e in
    let long = decode_sized-ok (padded w) 24 bytes was in
    let d = decode_of-ok (padded w) bytes (sym (decode_sized-twice (padded w) 24 long) ∙ was) in
    let size : length bytes ≡ 24 = omega (arith, long, d.2) in
    subst (λ (x : Token). (w ≡ token_word x) × IsToken x) (some_is (record { 0 = bytes }) t g.1)
    (sym (is_that (token_word (record { 0 = bytes })) w g.0), record { size = size; bytes = d.3 })

token_takes : (w : List ℕ) (t : Token) → token_value w ≡ Some t → (w ≡ token_word t) × IsToken t
unfolding token_value
token_takes w t e =
    let g = if_some (leb (length w) 48) (checked_token w (decode_sized (padded w) 24)) t e in
    checked_token_takes w t (decode_sized (padded w) 24) refl g.1

padded_token : (t : Token) → IsToken t → padded (token_word t) ≡ encode_lower t.0
padded_token t h =
    let long : length (encode_lower t.0) ≡ 2 * length t.0 = length-encode_with lower_digits t.0 in
    let whole : length (encode_lower t.0) ≡ 48 = omega (arith, long, h.size) in
    subst (λ (n : ℕ). replicate (n - length (trimmed (encode_lower t.0))) 48 ++ trimmed (encode_lower t.0) ≡ encode_lower t.0) whole (zeros_come_back (encode_lower t.0))

token_again : (t : Token) → IsToken t → token_value (token_word t) ≡ Some t
unfolding token_value
token_again t h =
    let long : length (encode_lower t.0) ≡ 2 * length t.0 = length-encode_with lower_digits t.0 in
    let short : leb (length (token_word t)) 48 ≡ true = le-leb _ _ (omega (arith, long, h.size, length-trimmed (encode_lower t.0))) in
    rw (short, padded_token t h, decode_sized-encode_lower t.0 24 h.size h.bytes, is_itself (token_word t)) refl

pub token_read : (w : List ℕ) (t : Token) → length w ≤ 48 → AreNumeral w → encode_lower t.0 ≡ padded w → token_value w ≡ Some t
token_read w t short h e =
    let all : list_all is_digit (encode_lower t.0) ≡ true = ap (list_all is_digit) e ∙ padded_digits (48 - length w) w h.all in
    let zeros : List ℕ = replicate (48 - length w) 48 in
    let whole : length (zeros ++ w) ≡ 48 = rw (length-append zeros w, length-replicate {A = ℕ} (48 - length w) 48) (omega arith) in
    let long : 2 * length t.0 ≡ 48 = sym (length-encode_with lower_digits t.0) ∙ ap (λ (v : List ℕ). length v) e ∙ whole in
    let word_is : token_word t ≡ w = ap trimmed e ∙ trimmed_numeral (48 - length w) w h in
    ap token_value (sym word_is) ∙ token_again t (record { size = omega arith; bytes = spelled_bytes t.0 all })

pub token_other : (w : List ℕ) → (length w ≤ 48 → AreNumeral w → ⊥) → token_value w ≡ None
token_other w h =
    none_unless (token_value w) (λ t e.
    let k = token_takes w t e in
    let long : length (encode_lower t.0) ≡ 2 * length t.0 = length-encode_with lower_digits t.0 in
    let short : length w ≤ 48 = omega (arith, ap (λ (v : List ℕ). length v) k.0, length-trimmed (encode_lower t.0), long, k.1.size) in
    h short (subst AreNumeral (sym k.0) (numeral_trimmed (encode_lower t.0) (omega (arith, long, k.1.size)) (encoded_digits t.0 k.1.bytes))))

pub token_field : Field token_at (λ t. word (token_word t)) IsToken
unfolding token_at
token_field = field token_value token_word IsToken (record {
  takes = token_takes;
  again = token_again;
  no_space = λ t h. trimmed_no_space (encode_lower t.0) (encoded_no_space lower_digits t.0 digits_have_no_space);
})

-- ---- topics

test_no_space : (b : ℕ) → is_topic_byte b ≡ true → is_space b ≡ false
test_no_space b h = ne_eqb b 32 (λ e. absurd cc (subst (λ (d : ℕ). is_topic_byte d ≡ true) e h))

topic_no_space : (w : List ℕ) → list_all is_topic_byte w ≡ true → NoSpace w
topic_no_space [] h = tt
topic_no_space (b ∷ w) h = let p = and_parts (is_topic_byte b) (list_all is_topic_byte w) h in (test_no_space b p.0, topic_no_space w p.1)

topic_takes : (w : List ℕ) (t : Option (List ℕ)) → topic_value w ≡ Some t → (w ≡ topic_word t) × IfSome t IsTopic
unfolding topic_value
topic_takes w t e =
    elim (chosen (bytes_eq w (codes ".")) (Some None) (cond (is_topic w) (Some (Some w)) None) (Some t) e) [
      | inl p ↦ subst (λ (o : Option (List ℕ)). (w ≡ topic_word o) × IfSome o IsTopic) (some_is None t p.1) (is_that w (codes ".") p.0, tt)
      | inr p ↦
          let q = if_some (is_topic w) (Some (Some w)) t p.1 in
          subst (λ (o : Option (List ℕ)). (w ≡ topic_word o) × IfSome o IsTopic) (some_is (Some w) t q.1) (refl, q.0)
    ]

dot_is_no_topic : (w : List ℕ) → IsTopic w → bytes_eq w (codes ".") ≡ false
dot_is_no_topic w h = is_not w (codes ".") (λ dot. let e = subst IsTopic dot h in cc e)

topic_again : (t : Option (List ℕ)) → IfSome t IsTopic → topic_value (topic_word t) ≡ Some t
unfolding topic_value
topic_again None h = refl
topic_again (Some w) h = rw (dot_is_no_topic w h, h) refl

topic_word_no_space : (t : Option (List ℕ)) → IfSome t IsTopic → NoSpace (topic_word t)
topic_word_no_space None h = (refl, tt)
topic_word_no_space (Some w) h =
    topic_no_space w (and_parts (leb 1 (length w) && leb (length w) 32) (list_all is_topic_byte w) h).1

pub topic_field : Field topic_at (λ t. word (topic_word t)) (λ t. IfSome t IsTopic)
unfolding topic_at
topic_field = field topic_value topic_word (λ t. IfSome t IsTopic) (record { takes = topic_takes; again = topic_again; no_space = topic_word_no_space })

-- ---- urgencies

named : (w : List ℕ) (u v : Urgency) (other : Option Urgency) → (other ≡ Some v → w ≡ urgency_word v) → cond (bytes_eq w (urgency_word u)) (Some u) other ≡ Some v → w ≡ urgency_word v
named w u v other h e =
    elim (chosen (bytes_eq w (urgency_word u)) (Some u) other (Some v) e) [
      | inl p ↦ is_that w (urgency_word u) p.0 ∙ ap urgency_word (some_is u v p.1)
      | inr p ↦ h p.1
    ]

urgency_takes : (w : List ℕ) (v : Urgency) → urgency_value w ≡ Some v → w ≡ urgency_word v
unfolding urgency_value
urgency_takes w v e = named w VeryLow v _ (named w Low v _ (named w Normal v _ (named w High v _ (λ none. absurd (cc none))))) e

urgency_again : (u : Urgency) → urgency_value (urgency_word u) ≡ Some u
unfolding urgency_value
urgency_again VeryLow = refl
urgency_again Low = refl
urgency_again Normal = refl
urgency_again High = refl

urgency_no_space : (u : Urgency) → NoSpace (urgency_word u)
urgency_no_space VeryLow = (refl, (refl, (refl, (refl, (refl, (refl, (refl, (refl, tt))))))))
urgency_no_space Low = (refl, (refl, (refl, tt)))
urgency_no_space Normal = (refl, (refl, (refl, (refl, (refl, (refl, tt))))))
urgency_no_space High = (refl, (refl, (refl, (refl, tt))))

pub urgency_field : Field urgency_at (λ u. word (urgency_word u)) (λ u. Unit {0})
unfolding urgency_at
urgency_field = field urgency_value urgency_word (λ u. Unit {0}) (record {
  takes = λ w u e. (urgency_takes w u e, tt);
  again = λ u h. urgency_again u;
  no_space = λ u h. urgency_no_space u;
})

-- ---- payloads

nonempty_word : (bytes : List ℕ) → 0 < length bytes → payload_word bytes ≡ encode_lower bytes
nonempty_word [] h = absurd (omega arith)
nonempty_word (b ∷ bytes) h = refl

checked_takes : (w p : List ℕ) (r : Result (List ℕ) FromHexError) → length w ≤ 8192 → decode_of w ≡ r → checked_payload w r ≡ Some p → (w ≡ payload_word p) × IsPayload p
checked_takes w p (Err d) short was e = absurd cc
checked_takes w p (Ok bytes) short was e =
    let g = if_some (ltb 0 (length bytes) && bytes_eq (encode_lower bytes) w) (Some bytes) p e in
    let a = and_parts (ltb 0 (length bytes)) (bytes_eq (encode_lower bytes) w) g.0 in
    let d = decode_of-ok w bytes was in
    subst (λ (o : List ℕ). (w ≡ payload_word o) × IsPayload o) (some_is bytes p g.1)
    (sym (is_that (encode_lower bytes) w a.1) ∙ sym (nonempty_word bytes (ltb-true _ _ a.0)), record { short = omega (arith, d.2); bytes = d.3 })

payload_takes : (w p : List ℕ) → payload_value w ≡ Some p → (w ≡ payload_word p) × IsPayload p
unfolding payload_value
payload_takes w p e =
    elim (chosen (bytes_eq w (codes ".")) (Some []) (cond (leb (length w) 8192) (checked_payload w (decode_of w)) None) (Some p) e) [
      | inl h ↦
          subst (λ (o : List ℕ). (w ≡ payload_word o) × IsPayload o) (some_is [] p h.1)
          (is_that w (codes ".") h.0, record { short = omega arith; bytes = λ i. omega arith })
      | inr h ↦
          let g = if_some (leb (length w) 8192) (checked_payload w (decode_of w)) p h.1 in
          checked_takes w p (decode_of w) (leb-true _ _ g.0) refl g.1
    ]

payload_again : (p : List ℕ) → IsPayload p → payload_value (payload_word p) ≡ Some p
unfolding payload_value
payload_again [] h = refl
payload_again (b ∷ bytes) h =
    let long : length (encode_lower (b ∷ bytes)) ≡ 2 * length (b ∷ bytes) = length-encode_with lower_digits (b ∷ bytes) in
    let no_dot = is_not (encode_lower (b ∷ bytes)) (codes ".") (λ dot. absurd (omega (arith, long, ap (λ (v : List ℕ). length v) dot))) in
    let short : leb (length (encode_lower (b ∷ bytes))) 8192 ≡ true = le-leb _ _ (omega (arith, long, h.short)) in
    let some : ltb 0 (length (b ∷ bytes)) ≡ true = lt-ltb _ _ (omega arith) in
    rw (no_dot, short, decode_of-encode_lower (b ∷ bytes) h.bytes, some, is_itself (encode_lower (b ∷ bytes))) refl

pub payload_read : (w : List ℕ) → 2 ≤ length w → length w ≤ 8192 → length w % 2 ≡ 0 → list_all is_digit w ≡ true → payload_value w ≡ Some (decoded w)
payload_read w some short even all =
    let d = decodes w all even in
    let size : 2 * length (decoded w) ≡ length w = length-decoded w all even in
    let word_is : payload_word (decoded w) ≡ w = nonempty_word (decoded w) (omega arith) ∙ d.again in
    ap payload_value (sym word_is) ∙ payload_again (decoded w) (record { short = omega arith; bytes = d.bytes })

pub payload_dot : (w : List ℕ) → bytes_eq w (codes ".") ≡ true → payload_value w ≡ Some (decoded [])
unfolding payload_value
payload_dot w h = rw (h, decoded-nil) refl

-- what is spelled otherwise is no payload
word_of_payload : (w p : List ℕ) → IsPayload p → w ≡ payload_word p → (w ≡ codes ".") ⊎ ((2 ≤ length w) × (length w ≤ 8192) × (length w % 2 ≡ 0) × (list_all is_digit w ≡ true))
word_of_payload w [] h e = inl e
word_of_payload w (b ∷ bytes) h e =
    let long : length w ≡ 2 * length (b ∷ bytes) = ap (λ (v : List ℕ). length v) e ∙ length-encode_with lower_digits (b ∷ bytes) in
    inr (omega arith, omega (arith, h.short), omega arith, ap (list_all is_digit) e ∙ encoded_digits (b ∷ bytes) h.bytes)

pub payload_other : (w : List ℕ) → bytes_eq w (codes ".") ≡ false → (2 ≤ length w → length w ≤ 8192 → length w % 2 ≡ 0 → list_all is_digit w ≡ true → ⊥) → payload_value w ≡ None
payload_other w dot h =
    none_unless (payload_value w) (λ p e.
    let t = payload_takes w p e in
    elim (word_of_payload w p t.1 t.0) [
      | inl d ↦ absurd (cc (dot, (bytes_eq-Decides w (codes ".")).1 d))
      | inr d ↦ h d.0 d.1 d.2 d.3
    ])

payload_no_space : (p : List ℕ) → IsPayload p → NoSpace (payload_word p)
payload_no_space [] h = (refl, tt)
payload_no_space (b ∷ bytes) h = encoded_no_space lower_digits (b ∷ bytes) digits_have_no_space

pub payload_field : Field payload_at (λ p. word (payload_word p)) IsPayload
unfolding payload_at
payload_field = field payload_value payload_word IsPayload (record { takes = payload_takes; again = payload_again; no_space = payload_no_space })
