-- A user's claims, sessions and savers: no two have one node and moment, none is newer than the route row, and no session
-- and no saver holds more than 500 messages.
use Rattle.std.proofs.Common.{◌≡◌, ℕ, zero, suc, ◌+◌, ◌≤◌, Bool, true, false, cond, ◌&&◌, not, inl, inr, List, [], ◌∷◌, ◌++◌, filter, take, drop, ◌∙◌, ap, sym, subst, arith}
use Rattle.std.specs.Prelude.{Option, Some, find, length, nat_lt, nat_le, ◌==◌}
use Rattle.std.proofs.lemmas.List.{length-append}
use Rattle.std.proofs.lemmas.Bool.Decides.{nat_tests}
use Rattle.push_model.specs.declared.ids.ChannelId.{ChannelId}
use Rattle.push_model.specs.declared.ids.MsgId.{MsgId}
use Rattle.push_model.specs.declared.parts.Claim.{Claim}
use Rattle.push_model.specs.MessageValue.{MessageValue}
use Rattle.push_model.specs.Messages.{is_expired, is_message, unexpired}
use Rattle.push_model.specs.Keyed.{with_first, without_first}
use Rattle.push_model.specs.Sessions.{Session, acked_in, given, has_room, held, taken}
use Rattle.push_model.specs.Cells.{Cell, User, Saver}
use Rattle.push_model.proofs.Members.{In, find_in, in-with_first}
use Rattle.push_model.proofs.Care.{IsWithin}
use Rattle.push_laws.proofs.Counts.{amount, amount-with}

abbrev pub claim_key : ℕ → ℕ → Claim → Bool
claim_key n a k = (k.node == n) && (k.at == a)

abbrev pub session_key : ℕ → ℕ → Session → Bool
session_key n a x = (x.node == n) && (x.at == a)

abbrev pub saver_key : ℕ → ℕ → Saver → Bool
saver_key n a v = (v.node == n) && (v.at == a)

-- how many have that node and moment
abbrev pub keyed_amount : ℕ → ℕ → List Claim → List Session → List Saver → ℕ
keyed_amount n a ks xs vs = amount (claim_key n a) ks + (amount (session_key n a) xs + amount (saver_key n a) vs)

abbrev pub IsBounded : List MessageValue → Type 0
IsBounded ms = nat_le (length ms) 500 ≡ true

-- a saver isn't newer than the route row, and holds no more than that
pub record SaverBound (o : Option User) (v : Saver) : Type 0 where
  pub within : IsWithin v.at o
  pub bounded : IsBounded v.held

pub record ActorFacts (o : Option User) (ks : List Claim) (xs : List Session) (vs : List Saver) : Type 0 where
  pub keys : (n a : ℕ) → keyed_amount n a ks xs vs ≤ 1
  pub sessions : (x : Session) → In x xs → IsBounded (held x)
  pub savers : (v : Saver) → In v vs → SaverBound o v

-- of a cell
abbrev pub Actors : Cell → Type 0
Actors c = ActorFacts c.user c.claims c.sessions c.savers

-- ---- one part changes

pub user_actors : (o p : Option User) (ks : List Claim) (xs : List Session) (vs : List Saver) → ((a : ℕ) → IsWithin a o → IsWithin a p) →
    ActorFacts o ks xs vs → ActorFacts p ks xs vs
user_actors o p ks xs vs w h =
    record { keys = h.keys; sessions = h.sessions; savers = λ v i. record { within = w v.at (h.savers v i).within; bounded = (h.savers v i).bounded } }

pub sessions_actors : (o : Option User) (ks : List Claim) (xs ys : List Session) (vs : List Saver) →
    ((n a : ℕ) → amount (session_key n a) ys ≤ amount (session_key n a) xs) → ((x : Session) → In x ys → IsBounded (held x)) →
    ActorFacts o ks xs vs → ActorFacts o ks ys vs
sessions_actors o ks xs ys vs k b h =
    record { keys = λ n a. let d = k n a in let e = h.keys n a in omega (arith, d, e); sessions = b; savers = h.savers }

pub savers_actors : (o : Option User) (ks : List Claim) (xs : List Session) (vs ws : List Saver) →
    ((n a : ℕ) → amount (saver_key n a) ws ≤ amount (saver_key n a) vs) → ((v : Saver) → In v ws → SaverBound o v) →
    ActorFacts o ks xs vs → ActorFacts o ks xs ws
savers_actors o ks xs vs ws k b h =
    record { keys = λ n a. let d = k n a in let e = h.keys n a in omega (arith, d, e); sessions = h.sessions; savers = b }

-- ---- one session changes, and stays where it is

pub session_actors : (o : Option User) (ks : List Claim) (xs : List Session) (vs : List Saver) (t : Session → Bool) (g : Session → Session) (x : Session) →
    find t xs ≡ Some x → ((y : Session) → (g y).node ≡ y.node) → ((y : Session) → (g y).at ≡ y.at) → (IsBounded (held x) → IsBounded (held (g x))) →
    ActorFacts o ks xs vs → ActorFacts o ks (with_first t g xs) vs
session_actors o ks xs vs t g x e n m b h =
    sessions_actors o ks xs (with_first t g xs) vs
    (λ k a. let q = amount-with (session_key k a) t g xs (λ y. ap (λ z. (z == k) && ((g y).at == a)) (n y) ∙ ap (λ z. (y.node == k) && (z == a)) (m y)) in omega (arith, q))
    (λ y i. elim (in-with_first t g y x xs e i) [ inl j ↦ h.sessions y j | inr q ↦ subst (λ z. IsBounded (held z)) (sym q) (b (h.sessions x (find_in t x xs e))) ])
    h

-- one saver changes, and stays where it is
pub saver_actors : (o : Option User) (ks : List Claim) (xs : List Session) (vs : List Saver) (t : Saver → Bool) (g : Saver → Saver) (v : Saver) →
    find t vs ≡ Some v → ((y : Saver) → (g y).node ≡ y.node) → ((y : Saver) → (g y).at ≡ y.at) → (IsBounded v.held → IsBounded (g v).held) →
    ActorFacts o ks xs vs → ActorFacts o ks xs (with_first t g vs)
saver_actors o ks xs vs t g v e n m b h =
    savers_actors o ks xs vs (with_first t g vs)
    (λ k a. let q = amount-with (saver_key k a) t g vs (λ y. ap (λ z. (z == k) && ((g y).at == a)) (n y) ∙ ap (λ z. (y.node == k) && (z == a)) (m y)) in omega (arith, q))
    (λ y i. elim (in-with_first t g y v vs e i) [
      | inl j ↦ h.savers y j
      | inr q ↦
          let s = h.savers v (find_in t v vs e) in
          subst (SaverBound o) (sym q) (record { within = subst (λ a. IsWithin a o) (sym (m v)) s.within; bounded = b s.bounded })
    ])
    h

-- ---- what is held

shorter : (a b : ℕ) → a ≤ b → nat_le b 500 ≡ true → nat_le a 500 ≡ true
shorter a b h e = grind (arith, nat_tests)

without_cons : {A : Type 0} (b : Bool) (x : A) (xs ys : List A) → length ys ≤ length xs → length (cond b xs (x ∷ ys)) ≤ length (x ∷ xs)
without_cons true x xs ys h = omega arith
without_cons false x xs ys h = omega (arith, h)

length-without : {A : Type 0} (p : A → Bool) (xs : List A) → length (without_first p xs) ≤ length xs
length-without p [] = omega arith
length-without p (x ∷ xs) = without_cons (p x) x xs (without_first p xs) (length-without p xs)

filter_cons : {A : Type 0} (b : Bool) (x : A) (xs ys : List A) → length ys ≤ length xs → length (cond b (x ∷ ys) ys) ≤ length (x ∷ xs)
filter_cons true x xs ys h = omega (arith, h)
filter_cons false x xs ys h = omega (arith, h)

length-filter : {A : Type 0} (p : A → Bool) (xs : List A) → length (filter p xs) ≤ length xs
length-filter p [] = omega arith
length-filter p (x ∷ xs) = filter_cons (p x) x xs (filter p xs) (length-filter p xs)

length-parts : (n : ℕ) (xs : List MessageValue) → length (take n xs) + length (drop n xs) ≡ length xs
length-parts zero xs = omega arith
length-parts (suc n) [] = omega arith
length-parts (suc n) (x ∷ xs) = let h = length-parts n xs in omega (arith, h)

-- what a session takes leaves its inbox, and what has expired goes
pub taken_bound : (moment : ℕ) (x : Session) → IsBounded (held x) → IsBounded (held (taken moment x))
taken_bound moment x h =
    let us = unexpired moment x.inbox in
    let a = length-append x.direct x.inbox in
    let b = length-append (x.direct ++ take 10 us) (drop 10 us) in
    let c = length-append x.direct (take 10 us) in
    let d = length-parts 10 us in
    let e = length-filter (λ m. not (is_expired moment m)) x.inbox in
    shorter (length (held (taken moment x))) (length (held x)) (omega (arith, a, b, c, d, e)) h

pub acked_bound : (h : ChannelId) (i : MsgId) (x : Session) → IsBounded (held x) → IsBounded (held (acked_in h i x))
acked_bound h i x k =
    let a = length-append x.direct x.inbox in
    let b = length-append (without_first (is_message h i) x.direct) x.inbox in
    let c = length-without (is_message h i) x.direct in
    shorter (length (held (acked_in h i x))) (length (held x)) (omega (arith, a, b, c)) k

one_more : (a b : ℕ) → nat_lt a 500 ≡ true → b ≡ a + 1 → nat_le b 500 ≡ true
one_more a b e h = grind (arith, nat_tests)

-- where it has room
pub given_bound : (m : MessageValue) (x : Session) → has_room x ≡ true → IsBounded (held (given m x))
given_bound m x e =
    let a = length-append x.direct x.inbox in
    let b = length-append x.direct (x.inbox ++ m ∷ []) in
    let c = length-append x.inbox (m ∷ []) in
    one_more (length (held x)) (length (held (given m x))) e (omega (arith, a, b, c))

pub tail_bound : (m : MessageValue) (ms : List MessageValue) → IsBounded (m ∷ ms) → IsBounded ms
tail_bound m ms h = shorter (length ms) (length (m ∷ ms)) (omega arith) h
