-- The terms of a head that is not refused are those of an ask.
use Rattle.std.proofs.Common.{◌≡◌, ◌≢◌, ◌↔◌, ℕ, ◌≤◌, Bool, true, false, cond, List, [], ◌∷◌, length, min, Option, Some, None, Result, Ok, Err, refl, sym, ap, ◌∙◌, arith, subst}
use Rattle.std.specs.Prelude.{◌&&◌, nat_le, ok_or, codes}
use Rattle.std.specs.List.{list_all}
use Rattle.std.specs.Str.Parse.{digits_value}
use Rattle.std.proofs.lemmas.Bool.Decides.{nat_tests}
use Rattle.push_model.specs.AskValue.{IsAsk, IsHeaderValue, is_printable}
use Rattle.push_model.specs.declared.ask.Terms.{Terms}
use Rattle.push_model.specs.declared.ask.Coding.{Coding}
use Rattle.push_model.specs.declared.ask.Coding.TheVariants.{Bare, Aes128gcm, Aesgcm}
use Rattle.http_bytes.specs.Numbers.{is_number, number_of}
use Rattle.http_wire.specs.HeadValue.{HeadValue}
use Rattle.http_wire.specs.Heads.{values_of}
use Rattle.push_headers.specs.Terms.{coding_by, coding_of, is_parameter, is_word, terms_of, topic_by, ttl_by, urgency_by, ◌>>=◌}
use Rattle.push_headers.specs.Asks.{ask_with, parameter_of}
use Rattle.push_headers.specs.declared.check.HeadFault.{HeadFault}
use Rattle.push_headers.specs.declared.check.HeadFault.TheVariants.{BadTtl, BadEncoding}

-- a chain of answers that ends well went well at its first
bound : {A B : Type 0} (r : Result A HeadFault) (f : A → Result B HeadFault) (y : B) → (r >>= f) ≡ Ok y → (x : A) × (r ≡ Ok x) × (f x ≡ Ok y)
bound (Ok x) f y e = (x, refl, e)
bound (Err fault) f y e = absurd (cc e)

picked : {A : Type 0} (b : Bool) (u t : A) (fault : HeadFault) → cond b (Ok u) (Err fault) ≡ Ok t → (b ≡ true) × (u ≡ t)
picked true u t fault e = (refl, cc e)
picked false u t fault e = absurd (cc e)

both_true : (a b : Bool) → (a && b) ≡ true → (a ≡ true) × (b ≡ true)
both_true true b e = (refl, e)
both_true false b e = absurd (cc e)

-- ---- the ttl

ttl_small : (b : Bool) (n d : ℕ) → ok_or (cond b (Some (min n 2592000)) None) BadTtl ≡ Ok d → d ≤ 2592000
ttl_small true n d e = let same : min n 2592000 ≡ d = cc e in omega (arith, same)
ttl_small false n d e = absurd (cc e)

ttl_bound : (values : List (List ℕ)) (d : ℕ) → ttl_by values ≡ Ok d → d ≤ 2592000
ttl_bound [] d e = absurd (cc e)
ttl_bound (v ∷ []) d e = ttl_small (is_number v) (digits_value 10 v) d e
ttl_bound (a ∷ b ∷ more) d e = absurd (cc e)

-- ---- the coding

word_not_bare : (a b : Bool) → ok_or (cond a (Some Aes128gcm) (cond b (Some Aesgcm) None)) BadEncoding ≡ Ok Bare → ⊥
word_not_bare true b e = cc e
word_not_bare false true e = cc e
word_not_bare false false e = cc e

bare_empty : (empty : Bool) (values : List (List ℕ)) → coding_by empty values ≡ Ok Bare → empty ≡ true
bare_empty true values e = refl
bare_empty false [] e = absurd (cc e)
bare_empty false (v ∷ []) e = absurd (word_not_bare (is_word (codes "aes128gcm") v) (is_word (codes "aesgcm") v) e)
bare_empty false (a ∷ b ∷ more) e = absurd (cc e)

empty_bare : (empty : Bool) (values : List (List ℕ)) (coding : Coding) → coding_by empty values ≡ Ok coding → empty ≡ true → coding ≡ Bare
empty_bare true values coding e f = cc e
empty_bare false values coding e f = absurd (cc f)

-- ---- the two headers

value_short : (v : List ℕ) → is_parameter (v ∷ []) ≡ true → (length v ≤ 1024) × (list_all is_printable v ≡ true)
value_short v e =
    let both = both_true (nat_le (length v) 1024) (list_all is_printable v) e in
    (grind (arith, nat_tests, both.0), both.1)

header_value : (coding : Coding) (values : List (List ℕ)) → is_parameter values ≡ true → IsHeaderValue coding (parameter_of coding values)
header_value Aesgcm [] e = record { short = omega arith; printable = refl; unused = λ other. absurd (other refl) }
header_value Aesgcm (v ∷ []) e = let both = value_short v e in record { short = both.0; printable = both.1; unused = λ other. absurd (other refl) }
header_value Aesgcm (a ∷ b ∷ more) e = absurd (cc e)
header_value Bare values e = record { short = omega arith; printable = refl; unused = λ other. refl }
header_value Aes128gcm values e = record { short = omega arith; printable = refl; unused = λ other. refl }

-- ---- the whole

-- what each line says
pub record Lines (h : HeadValue) (t : Terms) : Type 0 where
  pub ttl : ttl_by (values_of (codes "ttl") h.lines) ≡ Ok t.ttl
  pub coding : coding_by h.body_empty (values_of (codes "content-encoding") h.lines) ≡ Ok t.coding
  pub encryption : is_parameter (values_of (codes "encryption") h.lines) ≡ true
  pub crypto_key : is_parameter (values_of (codes "crypto-key") h.lines) ≡ true

lines_say : (h : HeadValue) (t : Terms) → terms_of h ≡ Ok t → Lines h t
lines_say h t e =
    let ttl = bound (ttl_by (values_of (codes "ttl") h.lines)) _ t e in
    let topic = bound (topic_by (values_of (codes "topic") h.lines)) _ t ttl.2 in
    let urgency = bound (urgency_by (values_of (codes "urgency") h.lines)) _ t topic.2 in
    let coding = bound (coding_by h.body_empty (values_of (codes "content-encoding") h.lines)) _ t urgency.2 in
    let last = picked _ _ t BadEncoding coding.2 in
    let two = both_true _ _ last.0 in
    record {
      ttl = ttl.1 ∙ ap (λ (u : Terms). Ok u.ttl) last.1;
      coding = coding.1 ∙ ap (λ (u : Terms). Ok u.coding) last.1;
      encryption = two.0;
      crypto_key = two.1;
    }

pub is_ask : (h : HeadValue) (payload : List ℕ) (t : Terms) → terms_of h ≡ Ok t → length payload ≤ 4096 → (payload ≡ []) ↔ (h.body_empty ≡ true) → IsAsk (ask_with h payload t)
is_ask h payload t e small empty =
    let lines = lines_say h t e in
    record {
      ttl = ttl_bound (values_of (codes "ttl") h.lines) t.ttl lines.ttl;
      size = small;
      bare = (
        λ b. empty.1 (bare_empty h.body_empty (values_of (codes "content-encoding") h.lines) (lines.coding ∙ ap (λ (c : Coding). Ok c) b)),
        λ none. empty_bare h.body_empty (values_of (codes "content-encoding") h.lines) t.coding lines.coding (empty.0 none),
      );
      encryption = header_value t.coding (values_of (codes "encryption") h.lines) lines.encryption;
      crypto_key = header_value t.coding (values_of (codes "crypto-key") h.lines) lines.crypto_key;
    }
