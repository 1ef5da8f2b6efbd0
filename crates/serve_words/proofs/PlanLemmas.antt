-- Words that spell a plan spell one plan, and five words are a list.
use Rattle.std.proofs.Common.{◌≡◌, ℕ, ◌<◌, ◌≤◌, ◌^◌, List, [], ◌∷◌, length, get_or, map, refl, sym, subst, ◌∙◌, arith, Option, Some, None}
use Rattle.std.specs.Prelude.{codes, decimal, IfSome}
use Rattle.std.proofs.lemmas.Fmt.{decimal_injective}
use Rattle.serve_words.specs.Plans.{IsPlan, PlanValue, serve_words}

-- ---- numbers

abbrev pub plan : ℕ → ℕ → ℕ → ℕ → PlanValue
plan a b c d = record { connections = a; endpoints = b; connection_port = c; endpoint_port = d }

same_number : (m n : ℕ) (w : List ℕ) → m < 2 ^ 64 → n < 2 ^ 64 → w ≡ decimal m → w ≡ decimal n → m ≡ n
same_number m n w low less e f = decimal_injective m n low less (sym e ∙ f)

pub spelled_once : (p : PlanValue) (a b c d : ℕ) (wa wb wc wd : List ℕ) → a < 2 ^ 64 → b < 2 ^ 64 → c < 2 ^ 64 → d < 2 ^ 64
    → wa ≡ decimal a → wb ≡ decimal b → wc ≡ decimal c → wd ≡ decimal d
    → (wa ≡ decimal p.connections) × (wb ≡ decimal p.endpoints) × (wc ≡ decimal p.connection_port) × (wd ≡ decimal p.endpoint_port) → IsPlan p → IsPlan (plan a b c d)
spelled_once p a b c d wa wb wc wd la lb lc ld ea eb ec ed s h =
    let fa : p.connections < 2 ^ 64 = omega (arith, h.few_connections) in
    let fb : p.endpoints < 2 ^ 64 = omega (arith, h.few_endpoints) in
    let fc : p.connection_port < 2 ^ 64 = omega (arith, h.last_connection) in
    let fd : p.endpoint_port < 2 ^ 64 = omega (arith, h.last_endpoint) in
    let xa : p.connections ≡ a = same_number p.connections a wa fa la s.0 ea in
    let xb : p.endpoints ≡ b = same_number p.endpoints b wb fb lb s.1 eb in
    let xc : p.connection_port ≡ c = same_number p.connection_port c wc fc lc s.2 ec in
    let xd : p.endpoint_port ≡ d = same_number p.endpoint_port d wd fd ld s.3 ed in
    let e : p ≡ plan a b c d = λ i. plan (xa i) (xb i) (xc i) (xd i) in
    subst IsPlan e h

-- ---- words

pub five_words : {X : Type 0} (view : X → List ℕ) (xs : List X) (n a b c d : X) → 5 ≤ length xs → length xs < 6
    → n ≡ get_or xs 0 n → a ≡ get_or xs 1 a → b ≡ get_or xs 2 b → c ≡ get_or xs 3 c → d ≡ get_or xs 4 d
    → map view xs ≡ view n ∷ view a ∷ view b ∷ view c ∷ view d ∷ []
five_words view [] n a b c d some few en ea eb ec ed = absurd (omega arith)
five_words view (n1 ∷ []) n a b c d some few en ea eb ec ed = absurd (omega arith)
five_words view (n1 ∷ a1 ∷ []) n a b c d some few en ea eb ec ed = absurd (omega arith)
five_words view (n1 ∷ a1 ∷ b1 ∷ []) n a b c d some few en ea eb ec ed = absurd (omega arith)
five_words view (n1 ∷ a1 ∷ b1 ∷ c1 ∷ []) n a b c d some few en ea eb ec ed = absurd (omega arith)
five_words view (n1 ∷ a1 ∷ b1 ∷ c1 ∷ d1 ∷ []) n a b c d some few en ea eb ec ed =
    let fn : n ≡ n1 = en in let fa : a ≡ a1 = ea in let fb : b ≡ b1 = eb in let fc : c ≡ c1 = ec in let fd : d ≡ d1 = ed in
    rw (fn, fa, fb, fc, fd) refl
five_words view (n1 ∷ a1 ∷ b1 ∷ c1 ∷ d1 ∷ e1 ∷ xs) n a b c d some few en ea eb ec ed = absurd (omega arith)

pub some_words : (o : Option PlanValue) (n a b c d : List ℕ) (ws : List (List ℕ)) → ws ≡ n ∷ a ∷ b ∷ c ∷ d ∷ [] → n ≡ codes "serve"
    → IfSome o (λ p. (a ≡ decimal p.connections) × (b ≡ decimal p.endpoints) × (c ≡ decimal p.connection_port) × (d ≡ decimal p.endpoint_port))
    → IfSome o (λ p. ws ≡ serve_words p)
some_words None n a b c d ws e en h = tt
some_words (Some p) n a b c d ws e en h = e ∙ rw (en, h.0, h.1, h.2, h.3) refl
