-- Empty lines alone.
use Rattle.std.proofs.Common.{◌≡◌, ℕ, ◌<◌, ◌==◌, Bool, true, false, inl, inr, List, [], ◌∷◌, ◌++◌, refl, sym, ap, ◌∙◌, arith}
use Rattle.std.specs.Prelude.{IsTrue}
use Rattle.std.proofs.Common.{cond, rules, ◌⊎◌}
use Rattle.std.proofs.lemmas.Str.{IsUtf8-from_ascii}
use Rattle.std.proofs.lemmas.List.Elements.{All-cons, All-nil}
use Rattle.http_bytes.specs.Forms.{IsHeadBad}
use Rattle.std.proofs.lemmas.Bool.Decides.{nat_tests}
use Rattle.httparse.specs.Grammar.{LineEnd, IsField, crlf, lf, is_token_byte, is_uri_byte, print_blank, print_version, RequestHead, IsRequestHead, print_request}
use Rattle.httparse.specs.Pieces.{Stops, is_newline}
use Rattle.httparse.proofs.GrammarLemmas.{print_request-append}
use Rattle.httparse.proofs.PieceLemmas.{Stops_token}
use Rattle.http_wire.specs.Requests.{is_blank, IsRequest, BehindHead, IsBad, IsBodyBad, IsBodyOpen, IsUnframed}
use Rattle.http_wire.specs.declared.request.Request.{Request}
use Rattle.http_wire.specs.declared.framing.Framing.{Framing}
use Rattle.http_wire.proofs.Beginning.{blank_lf}
use Rattle.http_wire.proofs.Exclusive.{head_reads}

blank_ends : (ends : List LineEnd) (w : List ℕ) → is_blank (print_blank ends ++ w) ≡ is_blank w
blank_ends [] w = refl
blank_ends (crlf ∷ ends) w = blank_ends ends w
blank_ends (lf ∷ ends) w = blank_lf (print_blank ends ++ w) ∙ blank_ends ends w

stops_blank : (w : List ℕ) → Stops is_newline w → is_blank w ≡ false
stops_blank [] h = absurd h
stops_blank (b ∷ []) h = grind (arith, nat_tests)
stops_blank (b ∷ c ∷ w) h =
    let one : (b == 10) ≡ false = grind (arith, nat_tests) in
    let two : (b == 13) ≡ false = grind (arith, nat_tests) in
    rw (one, two) refl

-- bytes with a head in front are more
head_not_blank : (h : RequestHead) (z : List ℕ) → IsRequestHead h → is_blank (print_request h ++ z) ≡ false
head_not_blank h z k = ap is_blank (print_request-append h z) ∙ blank_ends h.blank _ ∙ stops_blank _ (Stops_token h.method _ k.method.0 k.method.1)

pub not_blank : (t y : List ℕ) (r : Request) → IsRequest t r → is_blank (t ++ y) ≡ false
not_blank t y r h = ap is_blank (head_reads t y r h) ∙ head_not_blank h.tree (h.behind ++ y) h.is.form

behind_not_blank : (P : Framing → List ℕ → Type 0) (seen : List ℕ) → BehindHead P seen → is_blank seen ≡ false
behind_not_blank P seen k = ap is_blank k.behind.1 ∙ head_not_blank k.tree k.behind.0 k.is.form

unframed_not_blank : (seen : List ℕ) → IsUnframed seen → is_blank seen ≡ false
unframed_not_blank seen k = ap is_blank k.seen_is ∙ head_not_blank k.tree k.behind k.is.form

-- ---- a head behind empty lines

lone_end : (a : ℕ) → is_blank (a ∷ []) ≡ true → (ends : List LineEnd) × (a ∷ [] ≡ print_blank ends)
lone_end a h =
    let same : a ≡ 10 = grind (arith, nat_tests) in
    (lf ∷ [], ap (λ (x : ℕ). x ∷ []) same)

is_lf : (a b : ℕ) (bytes : List ℕ) (v : Bool) → (a == 10) ≡ v → is_blank (a ∷ b ∷ bytes) ≡ true
    → ((v ≡ true) × (a ≡ 10) × (is_blank (b ∷ bytes) ≡ true)) ⊎ ((a ≡ 13) × (b ≡ 10) × (is_blank bytes ≡ true))
is_lf a b bytes true e h =
    let plain = rw e at h in
    inl (refl, grind (arith, nat_tests), plain)
is_lf a b bytes false e h =
    let plain = rw e at h in
    inr (second_lf a b bytes (a == 13) (b == 10) refl refl plain)
  where
    second_lf : (a b : ℕ) (bytes : List ℕ) (v w : Bool) → (a == 13) ≡ v → (b == 10) ≡ w → cond (a == 13) (cond (b == 10) (is_blank bytes) false) false ≡ true
        → (a ≡ 13) × (b ≡ 10) × (is_blank bytes ≡ true)
    second_lf a b bytes true true e f h = let plain = rw (e, f) at h in (grind (arith, nat_tests), grind (arith, nat_tests), plain)
    second_lf a b bytes true false e f h = let plain = rw (e, f) at h in absurd (cc plain)
    second_lf a b bytes false w e f h = let plain = rw e at h in absurd (cc plain)

-- empty lines alone are the ends of some lines
ends_of : (seen : List ℕ) → is_blank seen ≡ true → (ends : List LineEnd) × (seen ≡ print_blank ends)
ends_of [] h = ([], refl)
ends_of (a ∷ []) h = lone_end a h
ends_of (a ∷ b ∷ bytes) h = joined (is_lf a b bytes (a == 10) refl h) (ends_of (b ∷ bytes)) (ends_of bytes)
  where
    joined : {a b : ℕ} {bytes : List ℕ} {v : Bool} → ((v ≡ true) × (a ≡ 10) × (is_blank (b ∷ bytes) ≡ true)) ⊎ ((a ≡ 13) × (b ≡ 10) × (is_blank bytes ≡ true))
        → (is_blank (b ∷ bytes) ≡ true → (ends : List LineEnd) × (b ∷ bytes ≡ print_blank ends)) → (is_blank bytes ≡ true → (ends : List LineEnd) × (bytes ≡ print_blank ends))
        → (ends : List LineEnd) × (a ∷ b ∷ bytes ≡ print_blank ends)
    joined (inl k) f g = let r = f k.2 in (lf ∷ r.0, λ i. k.1 i ∷ r.1 i)
    joined (inr k) f g = let r = g k.2 in (crlf ∷ r.0, λ i. k.0 i ∷ k.1 i ∷ r.1 i)

plain_head : List LineEnd → RequestHead
plain_head ends = record { blank = ends; method = 65 ∷ []; target = 47 ∷ []; minor = 0; line_end = lf; fields = []; last = lf }

letter : IsTrue (is_token_byte 65)
unfolding is_token_byte
letter = refl

is_plain_head : (ends : List LineEnd) → IsRequestHead (plain_head ends)
unfolding plain_head
is_plain_head ends =
    record {
      method = (omega arith, All-cons (λ b. IsTrue (is_token_byte b)) 65 [] letter (All-nil (λ b. IsTrue (is_token_byte b))));
      target = (omega arith, All-cons (λ b. IsTrue (is_uri_byte b)) 47 [] refl (All-nil (λ b. IsTrue (is_uri_byte b))));
      target_text = IsUtf8-from_ascii (47 ∷ []) (search rules);
      minor = omega arith;
      fields = All-nil IsField;
    }

blank_not_head_bad : (seen : List ℕ) → is_blank seen ≡ true → IsHeadBad seen → ⊥
unfolding plain_head
blank_not_head_bad seen h k =
    let ends = ends_of seen h in
    let tree = plain_head ends.0 in
    let text : seen ++ (65 ∷ 32 ∷ 47 ∷ 32 ∷ (print_version 0 ++ (10 ∷ 10 ∷ []))) ≡ print_request tree ++ [] =
    ap (λ (t : List ℕ). t ++ (65 ∷ 32 ∷ 47 ∷ 32 ∷ (print_version 0 ++ (10 ∷ 10 ∷ [])))) ends.1 ∙ sym (print_request-append tree []) in
    let over : 100 < 0 = k (65 ∷ 32 ∷ 47 ∷ 32 ∷ (print_version 0 ++ (10 ∷ 10 ∷ []))) tree [] (is_plain_head ends.0, text) in
    omega arith

both : (v : Bool) → v ≡ true → v ≡ false → ⊥
both v p q = cc

pub blank_not_body : (seen : List ℕ) → is_blank seen ≡ true → BehindHead IsBodyOpen seen → ⊥
blank_not_body seen h k = both (is_blank seen) h (behind_not_blank IsBodyOpen seen k)

pub blank_not_bad : (seen : List ℕ) → is_blank seen ≡ true → IsBad seen → ⊥
blank_not_bad seen h (inl (inl k)) = blank_not_head_bad seen h k
blank_not_bad seen h (inl (inr k)) = both (is_blank seen) h (unframed_not_blank seen k)
blank_not_bad seen h (inr k) = both (is_blank seen) h (behind_not_blank IsBodyBad seen k)
