-- What the small laws say of pools: which message replaces another, and what a step changes.
use Rattle.std.proofs.Common.{◌≡◌, ◌≢◌, ℕ, suc, Bool, true, false, ◌&&◌, not, ◌⊎◌, inl, inr, List, [], ◌∷◌, ◌++◌, filter, refl, ◌∙◌, ap, sym, subst, cond, arith}
use Rattle.std.specs.Prelude.{find, map, Option, Some, None, ◌==◌, ◌<◌, nat_lt, All, Contains, if◌then◌else◌}
use Rattle.std.specs.List.{AllByRecursion}
use Rattle.std.proofs.lemmas.List.Elements.{All-contains, All-from_recursion}
use Rattle.std.proofs.lemmas.Bool.Decides.{nat_tests}
use Rattle.std.proofs.lemmas.Slice.Eq.{bytes_eq-Decides}
use Rattle.push_model.specs.declared.ids.Uaid.{Uaid}
use Rattle.push_model.specs.declared.ids.ChannelId.{ChannelId}
use Rattle.push_model.specs.Names.{is_same_channel}
use Rattle.push_model.specs.MessageValue.{MessageValue}
use Rattle.push_model.specs.Messages.{is_same_topic}
use Rattle.push_model.specs.Pools.{Pool, Taken, is_taken, taken_at, is_same_user, is_target, is_subscribed, is_sent_to, replaces, number_of, marked, unsubscribed_at, dropped_at, IsAt, new_taken, after, Take, Unsubscribe, Drop}
use Rattle.push_model.specs.Pins.{IsReplacedBy, ChangesOnly}
use Rattle.push_model.proofs.Members.{In, true_not_false, find_in, find_passes, among, filter_passes}
use Rattle.push_model.proofs.Marks.{IsMark, mapped, marked_at, marked_here, find_other_last, and_left, and_right}

-- ---- elements by their places

-- each element is contained
pub contains : {A : Type 0} (x : A) (xs : List A) → In x xs → Contains xs x
contains x [] i = elim i [ ]
contains x (y ∷ ys) (inl e) = (0, omega arith, sym e)
contains x (y ∷ ys) (inr i) = let c = contains x ys i in let below = c.1 in (suc c.0, omega arith, c.2)

each_by : {A : Type 0} (P : A → Type 0) (xs : List A) → ((x : A) → In x xs → P x) → AllByRecursion P xs
each_by P [] f = tt
each_by P (x ∷ xs) f = (f x (inl refl), each_by P xs (λ y i. f y (inr i)))

-- what holds of each element holds of all
pub all_by : {A : Type 0} (P : A → Type 0) (xs : List A) → ((x : A) → In x xs → P x) → All P xs
all_by P xs f = All-from_recursion P xs (each_by P xs f)

-- and what is contained is an element
pub contained : {A : Type 0} (x : A) (xs : List A) → Contains xs x → In x xs
contained x xs c = All-contains (λ y. In y xs) xs x (all_by (λ y. In y xs) xs (λ y i. i)) c

-- ---- names that are the same

pub same_user : (a b : Uaid) → is_same_user a b ≡ true → a ≡ b
same_user a b h = let e : a.0 ≡ b.0 = grind (arith, nat_tests) in ap (λ n. let u : Uaid = record { 0 = n } in u) e

pub same_channel : (a b : ChannelId) → is_same_channel a b ≡ true → a ≡ b
same_channel a b h = let e : a.0 ≡ b.0 = grind (arith, nat_tests) in ap (λ n. let c : ChannelId = record { 0 = n } in c) e

pub itself : (n : ℕ) → (n == n) ≡ true
itself n = grind (arith, nat_tests)

-- a topic that both have
pub record Shared (a b : Option (List ℕ)) : Type 0 where
  pub topic : List ℕ
  pub first : a ≡ Some topic
  pub second : b ≡ Some topic

shared : (a b : Option (List ℕ)) → is_same_topic a b ≡ true → Shared a b
shared (Some a) (Some b) h = record { topic = a; first = refl; second = ap (λ x. Some x) (sym ((bytes_eq-Decides a b).0 h)) }
shared (Some a) None h = cc
shared None b h = cc

-- ---- what replaces

below : (a b : ℕ) → nat_lt a b ≡ true → a < b
below a b h = grind (arith, nat_tests)

fits : (m : MessageValue) (x : Taken) → (nat_lt m.id.number x.message.id.number && (is_sent_to m.uaid m.chid x.message && is_same_topic m.ask.terms.topic x.message.ask.terms.topic)) ≡ true →
    x.kept ≡ true → IsReplacedBy m x
fits m x h k =
    let rest = and_right _ _ h in
    let to = and_left _ _ rest in
    let topic = shared m.ask.terms.topic x.message.ask.terms.topic (and_right _ _ rest) in
    record {
      kept = k;
      newer = below _ _ (and_left _ _ h);
      user = same_user x.message.uaid m.uaid (and_left _ _ to);
      channel = same_channel x.message.chid m.chid (and_right _ _ to);
      topic = topic.topic;
      has = topic.first;
      same = topic.second;
    }

pub replaced : (m : MessageValue) (x : Taken) → replaces m x ≡ true → IsReplacedBy m x
replaced m x h = fits m x (and_right _ _ h) (and_left _ _ h)

-- where none does, nothing is found
pub none_replaces : (m : MessageValue) (p : Pool) (o : Option Taken) → find (replaces m) p.taken ≡ o → ((x : Taken) → Contains p.taken x → IsReplacedBy m x → ⊥) → number_of o ≡ None
none_replaces m p None e f = refl
none_replaces m p (Some x) e f = absurd (f x (contains x p.taken (find_in (replaces m) x p.taken e)) (replaced m x (find_passes (replaces m) x p.taken e)))

-- the message of the number k that replaces m
pub record Replacement (m : MessageValue) (p : Pool) (k : ℕ) : Type 0 where
  pub by : Taken
  pub there : Contains p.taken by
  pub number : by.message.id.number ≡ k
  pub replaces : IsReplacedBy m by

pub replacement : (m : MessageValue) (p : Pool) (o : Option Taken) (k : ℕ) → find (replaces m) p.taken ≡ o → number_of o ≡ Some k → Replacement m p k
replacement m p None k e h = cc
replacement m p (Some x) k e h =
    record { by = x; there = contains x p.taken (find_in (replaces m) x p.taken e); number = cc; replaces = replaced m x (find_passes (replaces m) x p.taken e) }

-- ---- subscriptions

-- what is subscribed is contained
pub subscribed_there : (u : Uaid) (h : ChannelId) (p : Pool) → is_subscribed u h p ≡ true → Contains p.subscribed (u, h)
subscribed_there u h p e =
    let a = among (is_target u h) p.subscribed e in
    let user = same_user a.one.0 u (and_left _ _ a.passes) in
    let channel = same_channel a.one.1 h (and_right _ _ a.passes) in
    let same : a.one ≡ (u, h) = ap (λ x. let pair : Uaid × ChannelId = (x, a.one.1) in pair) user ∙ ap (λ y. let pair : Uaid × ChannelId = (u, y) in pair) channel in
    subst (Contains p.subscribed) same (contains a.one p.subscribed a.member)

-- ---- steps that mark the message of one number

pub changes : (n : ℕ) (f : Taken → Taken) (p : Pool) (t : Taken) → IsMark f → taken_at n p ≡ Some t → ChangesOnly n (f t) p (marked n f p)
changes n f p t k e =
    record {
      clock = refl;
      subscribed = refl;
      here = marked_here n f p k ∙ ap (mapped f) e;
      others = λ j ne. elim (marked_at j n f p k) [ inl h ↦ absurd (ne h.0) | inr h ↦ h.1 ];
    }

-- the fact of a message that is there
pub at_some : (o : Option Taken) (t : Taken) (P : Taken → Type 0) → o ≡ Some t → IsAt o P → P t
at_some o t P e h = subst (λ x. IsAt x P) e h

-- ---- Take

last_found : (n : ℕ) (b : Bool) (t x : Taken) (xs : List Taken) (o : Option Taken) → (o ≡ None → find (is_taken n) (xs ++ t ∷ []) ≡ Some t) →
    cond b (Some x) o ≡ None → cond b (Some x) (find (is_taken n) (xs ++ t ∷ [])) ≡ Some t
last_found n true t x xs o f h = cc
last_found n false t x xs o f h = f h

found_last : (n : ℕ) (t : Taken) (xs : List Taken) → is_taken n t ≡ true → find (is_taken n) xs ≡ None → find (is_taken n) (xs ++ t ∷ []) ≡ Some t
found_last n t [] e h = rw e refl
found_last n t (x ∷ xs) e h = last_found n (is_taken n x) t x xs (find (is_taken n) xs) (found_last n t xs e) h

other_number : (m : MessageValue) (k : ℕ) → k ≢ m.id.number → is_taken k (new_taken m) ≡ false
other_number m k ne = grind (arith, nat_tests)

pub takes : (m : MessageValue) (p : Pool) → taken_at m.id.number p ≡ None → ChangesOnly m.id.number (new_taken m) p (after (Take m) p)
takes m p e =
    record {
      clock = refl;
      subscribed = refl;
      here = found_last m.id.number (new_taken m) p.taken (itself m.id.number) e;
      others = λ k ne. find_other_last k (new_taken m) p.taken (other_number m k ne);
    }

-- ---- Unsubscribe and Drop

found_each : (n : ℕ) (f : Taken → Taken) (b : Bool) (x : Taken) (xs : List Taken) → is_taken n x ≡ b → is_taken n (f x) ≡ b →
    find (is_taken n) (map f xs) ≡ mapped f (find (is_taken n) xs) → find (is_taken n) (map f (x ∷ xs)) ≡ mapped f (cond b (Some x) (find (is_taken n) xs))
found_each n f true x xs e d ih = rw d refl
found_each n f false x xs e d ih = rw d ih

each_found : (n : ℕ) (f : Taken → Taken) → IsMark f → (xs : List Taken) → find (is_taken n) (map f xs) ≡ mapped f (find (is_taken n) xs)
each_found n f k [] = refl
each_found n f k (x ∷ xs) = found_each n f (is_taken n x) x xs refl (ap (λ m. m.id.number == n) (k.message x)) (each_found n f k xs)

unsubscribes_message : (b : Bool) (t : Taken) → (if b then record t { unsubscribed = true } else t).message ≡ t.message
unsubscribes_message true t = refl
unsubscribes_message false t = refl

unsubscribes_kept : (b : Bool) (t : Taken) → (if b then record t { unsubscribed = true } else t).kept ≡ t.kept
unsubscribes_kept true t = refl
unsubscribes_kept false t = refl

unsubscribes : (u : Uaid) (h : ChannelId) → IsMark (unsubscribed_at u h)
unsubscribes u h =
    record { message = λ t. unsubscribes_message (is_sent_to u h t.message) t; kept = λ t k. unsubscribes_kept (is_sent_to u h t.message) t ∙ k }

drops_message : (b : Bool) (t : Taken) → (if b then record t { dropped = true } else t).message ≡ t.message
drops_message true t = refl
drops_message false t = refl

drops_kept : (b : Bool) (t : Taken) → (if b then record t { dropped = true } else t).kept ≡ t.kept
drops_kept true t = refl
drops_kept false t = refl

drops : (u : Uaid) → IsMark (dropped_at u)
drops u = record { message = λ t. drops_message (is_same_user t.message.uaid u) t; kept = λ t k. drops_kept (is_same_user t.message.uaid u) t ∙ k }

at_user : (t : Taken) → is_sent_to t.message.uaid t.message.chid t.message ≡ true
at_user t = rw (itself t.message.uaid.0, itself t.message.chid.0) refl

pub unsubscribed_message : (n : ℕ) (p : Pool) (t : Taken) → taken_at n p ≡ Some t →
    taken_at n (after (Unsubscribe t.message.uaid t.message.chid) p) ≡ Some (record t { unsubscribed = true })
unsubscribed_message n p t e =
    each_found n (unsubscribed_at t.message.uaid t.message.chid) (unsubscribes t.message.uaid t.message.chid) p.taken ∙
    ap (mapped (unsubscribed_at t.message.uaid t.message.chid)) e ∙
    ap (λ b. Some (if b then record t { unsubscribed = true } else t)) (at_user t)

-- neither both
not_both : (a b : Bool) → (a ≡ true → b ≡ true → ⊥) → (a && b) ≡ false
not_both true true f = absurd (f refl refl)
not_both true false f = refl
not_both false b f = refl

elsewhere : (u : Uaid) (h : ChannelId) (t : Taken) → (t.message.uaid ≢ u) ⊎ (t.message.chid ≢ h) → is_sent_to u h t.message ≡ false
elsewhere u h t (inl ne) = not_both (is_same_user t.message.uaid u) (is_same_channel t.message.chid h) (λ a b. ne (same_user t.message.uaid u a))
elsewhere u h t (inr ne) = not_both (is_same_user t.message.uaid u) (is_same_channel t.message.chid h) (λ a b. ne (same_channel t.message.chid h b))

pub spared_message : (n : ℕ) (u : Uaid) (h : ChannelId) (p : Pool) (t : Taken) → taken_at n p ≡ Some t → (t.message.uaid ≢ u) ⊎ (t.message.chid ≢ h) →
    taken_at n (after (Unsubscribe u h) p) ≡ Some t
spared_message n u h p t e ne =
    each_found n (unsubscribed_at u h) (unsubscribes u h) p.taken ∙ ap (mapped (unsubscribed_at u h)) e ∙
    ap (λ b. Some (if b then record t { unsubscribed = true } else t)) (elsewhere u h t ne)

pub not_true : (b : Bool) → b ≡ true → not b ≡ true → ⊥
not_true true e f = true_not_false (sym f)
not_true false e f = true_not_false (sym e)

pub no_subscription : (u : Uaid) (h : ChannelId) (p : Pool) → Contains (after (Unsubscribe u h) p).subscribed (u, h) → ⊥
no_subscription u h p c =
    let pair : Uaid × ChannelId = (u, h) in
    let i = contained pair (filter (λ x. not (is_target u h x)) p.subscribed) c in
    let target : is_target u h pair ≡ true = rw (itself u.0, itself h.0) refl in
    not_true (is_target u h pair) target (filter_passes (λ x. not (is_target u h x)) pair p.subscribed i)

pub dropped_message : (n : ℕ) (p : Pool) (t : Taken) → taken_at n p ≡ Some t → taken_at n (after (Drop t.message.uaid) p) ≡ Some (record t { dropped = true })
dropped_message n p t e =
    each_found n (dropped_at t.message.uaid) (drops t.message.uaid) p.taken ∙ ap (mapped (dropped_at t.message.uaid)) e ∙
    ap (λ b. Some (if b then record t { dropped = true } else t)) (itself t.message.uaid.0)

pub not_so : (b : Bool) → (b ≡ true → ⊥) → b ≡ false
not_so true f = absurd (f refl)
not_so false f = refl

pub kept_message : (n : ℕ) (u : Uaid) (p : Pool) (t : Taken) → taken_at n p ≡ Some t → t.message.uaid ≢ u → taken_at n (after (Drop u) p) ≡ Some t
kept_message n u p t e ne =
    each_found n (dropped_at u) (drops u) p.taken ∙ ap (mapped (dropped_at u)) e ∙
    ap (λ b. Some (if b then record t { dropped = true } else t)) (not_so (is_same_user t.message.uaid u) (λ a. ne (same_user t.message.uaid u a)))
