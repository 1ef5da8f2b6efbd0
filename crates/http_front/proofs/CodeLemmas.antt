-- The codes of replies.
use Rattle.std.proofs.Common.{◌≡◌, ◌⊎◌, ℕ, ◌≤◌, ◌<◌, ◌^◌, ◌/◌, Bool, true, inl, inr, List, ◌++◌, length, take, drop, zero, suc, refl, sym, ap, subst, ◌∙◌, append_assoc, arith, codes, false}
use Rattle.std.specs.Prelude.{Option, Some, None, Result, Ok, Err, decimal, is_some}
use Rattle.std.specs.List.{list_any}
use Rattle.std.proofs.Math.Seq.{take-append_seam}
use Rattle.std.proofs.lemmas.Fmt.{decimal_injective, decimal_is_IsNumeral, length-decimal-le}
use Rattle.std.proofs.lemmas.Int.Digits.{digits_value-lt}
use Rattle.push_model.specs.declared.entry.NoMemory.{NoMemory}
use Rattle.push_model.specs.declared.ids.MsgId.{MsgId}
use Rattle.push_model.specs.DeskViews.{DeskView}
use Rattle.push_headers.specs.declared.check.HeadFault.{HeadFault}
use Rattle.push_headers.specs.declared.check.HeadFault.TheVariants.{MissingTtl, BadTtl, BadTopic, BadUrgency, BadEncoding}
use Rattle.push_json.specs.Bodies.{error_body}
use Rattle.http_wire.specs.Replies.{allow_line, body_bytes, body_lines, close_line, location_line, phrase, reply_text, ttl_line}
use Rattle.endpoint_router.specs.declared.answer.Answer.{Answer}
use Rattle.endpoint_router.specs.declared.answer.Answer.TheVariants.{Created, Gone, Full, IdsSpent}
use Rattle.endpoint_router.specs.Causes.{says_full, says_gone, says_spent, says_taken}
use Rattle.endpoint_router.proofs.RouteCauses.{Whole, created_test, route_says}
use Rattle.endpoint_router.specs.Shards.{shard_of}
use Rattle.http_front.specs.declared.fault.Fault.{Fault}
use Rattle.http_front.specs.declared.fault.Fault.TheVariants.{UnknownPath, WrongMethod, LongBody, Head, BadToken}
use Rattle.http_front.specs.declared.outcome.Outcome.{Outcome}
use Rattle.http_front.specs.declared.outcome.Outcome.TheVariants.{Faulty, Unread, Routed}
use Rattle.http_front.specs.declared.refusal.Refusal.{Refusal}
use Rattle.http_front.specs.Codes.{HasCode, IsTaken, outcome_code}
use Rattle.http_front.specs.Exchanges.{ComesTo, Exchange, IsAnswered, IsRouted, Tells, TellsRefusal, exchange_end, op}
use Rattle.http_front.specs.Faults.{first_fault}
use Rattle.http_front.specs.Rows.{allowed, created_text, fault_row, memory_body, memory_text, refusal_text}

-- ---- one text has one code

three : (l n : ℕ) → n < 10 ^ l → 100 ≤ n → l ≤ 3 → l ≡ 3
three zero n low high few = absurd (omega (arith, low, high))
three (suc zero) n low high few = absurd (omega (arith, low, high))
three (suc (suc zero)) n low high few = absurd (omega (arith, low, high))
three (suc (suc (suc l))) n low high few = omega (arith, few)

three_digits : (n : ℕ) → 100 ≤ n → n < 1000 → length (decimal n) ≡ 3
three_digits n low high =
    let is = decimal_is_IsNumeral n (omega (arith, high)) in
    let within : n < 10 ^ length (decimal n) = subst (λ z. z < 10 ^ length (decimal n)) is.1 (digits_value-lt 10 (decimal n) is.0.1) in
    three (length (decimal n)) n within low (length-decimal-le 3 n (omega arith) high (omega (arith, high)))

front_same : (xs ys vs ws : List ℕ) → length xs ≡ 3 → length ys ≡ 3 → xs ++ vs ≡ ys ++ ws → xs ≡ ys
front_same xs ys vs ws e f h =
    sym (take-append_seam xs vs) ∙ (ap (λ z. take z (xs ++ vs)) (e ∙ sym f) ∙ (ap (take (length ys)) h ∙ take-append_seam ys ws))

same_behind : (xs ys : List ℕ) → codes "HTTP/1.1 " ++ xs ≡ codes "HTTP/1.1 " ++ ys → xs ≡ ys
same_behind xs ys h = ap (λ z. drop 9 z) h

one_code : (c d : ℕ) (text : List ℕ) → 100 ≤ c → c < 1000 → 100 ≤ d → d < 1000 → HasCode c text → HasCode d text → c ≡ d
one_code c d text lc hc ld hd h k =
    let same = same_behind (decimal c ++ (codes " " ++ h.0)) (decimal d ++ (codes " " ++ k.0)) (sym h.1 ∙ k.1) in
    decimal_injective c d (omega (arith, hc)) (omega (arith, hd))
    (front_same (decimal c) (decimal d) (codes " " ++ h.0) (codes " " ++ k.0) (three_digits c lc hc) (three_digits d ld hd) same)

-- ---- the code of a reply's text

regroup : (v d s p e rest : List ℕ) → (v ++ (d ++ (s ++ (p ++ e)))) ++ rest ≡ v ++ (d ++ (s ++ (p ++ (e ++ rest))))
regroup v d s p e rest = simp append_assoc

reply_has : (code : ℕ) (allow : Option (List ℕ)) (close : Bool) (body : Option (List ℕ)) (location : Option MsgId) (ttl : Option ℕ) → HasCode code (reply_text code allow close body location ttl)
reply_has code allow close body location ttl = (
  phrase code ++ (codes "\r\n" ++ (allow_line allow ++ (close_line close ++ (body_lines code body ++ (location_line location ++ (ttl_line ttl ++ (codes "\r\n" ++ body_bytes body))))))),
  regroup (codes "HTTP/1.1 ") (decimal code) (codes " ") (phrase code) (codes "\r\n") _,
)

refusal_text_has : (r : Refusal) (close : Bool) → HasCode r.code (refusal_text r close)
refusal_text_has r close = reply_has r.code (allowed r.code) close (Some (error_body r.code r.errno)) None None

memory_has : (close : Bool) → HasCode 500 (memory_text close)
memory_has close = reply_has 500 None close (Some memory_body) None None

created_has : (i : MsgId) (ttl : ℕ) (close : Bool) → HasCode 201 (created_text i ttl close)
created_has i ttl close = reply_has 201 None close None (Some i) (Some ttl)

refusal_has : (refusal : Refusal) (close : Bool) (text : List ℕ) → TellsRefusal refusal close text → HasCode refusal.code text ⊎ HasCode 500 text
refusal_has refusal close text (inl e) = inl (subst (HasCode refusal.code) (sym e) (refusal_text_has refusal close))
refusal_has refusal close text (inr e) = inr (subst (HasCode 500) (sym e) (memory_has close))

told_has : (outcome : Outcome) (close : Bool) (text : List ℕ) → Tells outcome close text → HasCode (outcome_code outcome) text ⊎ HasCode 500 text
told_has (Faulty fault) close text t = refusal_has (fault_row fault) close text t
told_has Unread close text t = inr (subst (HasCode 500) (sym t) (memory_has close))
told_has (Routed (Ok (Created i ttl))) close text t = inl (subst (HasCode 201) (sym t) (created_has i ttl close))
told_has (Routed (Ok Gone)) close text t = refusal_has _ close text t
told_has (Routed (Ok Full)) close text t = refusal_has _ close text t
told_has (Routed (Ok IdsSpent)) close text t = refusal_has _ close text t
told_has (Routed (Err e)) close text t = inr (subst (HasCode 500) (sym t) (memory_has close))

-- each code has three digits
record IsCode (n : ℕ) : Type 0 where
  low : 100 ≤ n
  high : n < 1000

head_code : (f : HeadFault) → IsCode (fault_row (Head f)).code
head_code MissingTtl = record { low = omega arith; high = omega arith }
head_code BadTtl = record { low = omega arith; high = omega arith }
head_code BadTopic = record { low = omega arith; high = omega arith }
head_code BadUrgency = record { low = omega arith; high = omega arith }
head_code BadEncoding = record { low = omega arith; high = omega arith }

code_is : (outcome : Outcome) → IsCode (outcome_code outcome)
code_is (Faulty UnknownPath) = record { low = omega arith; high = omega arith }
code_is (Faulty WrongMethod) = record { low = omega arith; high = omega arith }
code_is (Faulty LongBody) = record { low = omega arith; high = omega arith }
code_is (Faulty (Head f)) = head_code f
code_is (Faulty BadToken) = record { low = omega arith; high = omega arith }
code_is Unread = record { low = omega arith; high = omega arith }
code_is (Routed (Ok (Created i ttl))) = record { low = omega arith; high = omega arith }
code_is (Routed (Ok Gone)) = record { low = omega arith; high = omega arith }
code_is (Routed (Ok Full)) = record { low = omega arith; high = omega arith }
code_is (Routed (Ok IdsSpent)) = record { low = omega arith; high = omega arith }
code_is (Routed (Err e)) = record { low = omega arith; high = omega arith }

-- a reply's code is that of what is told, or the one for want of memory
pub told_code : (c : ℕ) (outcome : Outcome) (close : Bool) (text : List ℕ) → 100 ≤ c → c < 1000 → Tells outcome close text → HasCode c text → (c ≡ outcome_code outcome) ⊎ (c ≡ 500)
told_code c outcome close text low high t h = by_told (told_has outcome close text t)
  where
    by_told : HasCode (outcome_code outcome) text ⊎ HasCode 500 text → (c ≡ outcome_code outcome) ⊎ (c ≡ 500)
    by_told (inl k) = inl (one_code c (outcome_code outcome) text low high (code_is outcome).low (code_is outcome).high h k)
    by_told (inr k) = inr (one_code c 500 text low high (omega arith) (omega arith) h k)

pub answered_code : (v : DeskView) (moment : Option ℕ) (count n : ℕ) (x : Exchange) → IsAnswered v moment count n x → (c : ℕ) → 100 ≤ c → c < 1000 → HasCode c x.reply → (c ≡ outcome_code x.outcome) ⊎ (c ≡ 500)
answered_code v moment count n x h c low high k = told_code c x.outcome (is_some (exchange_end x count n)) x.reply low high h.tells k

pub answered_has : (v : DeskView) (moment : Option ℕ) (count n : ℕ) (x : Exchange) → IsAnswered v moment count n x → HasCode (outcome_code x.outcome) x.reply ⊎ HasCode 500 x.reply
answered_has v moment count n x h = told_has x.outcome (is_some (exchange_end x count n)) x.reply h.tells

-- ---- which outcome a code tells of

not_head : (c : ℕ) (f : HeadFault) (L : Type 0) → (c ≡ 400 → ⊥) → c ≡ (fault_row (Head f)).code → L
not_head c MissingTtl L n h = absurd (n h)
not_head c BadTtl L n h = absurd (n h)
not_head c BadTopic L n h = absurd (n h)
not_head c BadUrgency L n h = absurd (n h)
not_head c BadEncoding L n h = absurd (n h)

created_by : (outcome : Outcome) → 201 ≡ outcome_code outcome → (i : MsgId) × (ttl : ℕ) × (outcome ≡ Routed (Ok (Created i ttl)))
created_by (Faulty UnknownPath) h = absurd (omega (arith, h))
created_by (Faulty WrongMethod) h = absurd (omega (arith, h))
created_by (Faulty LongBody) h = absurd (omega (arith, h))
created_by (Faulty (Head f)) h = not_head 201 f _ (λ e. omega (arith, e)) h
created_by (Faulty BadToken) h = absurd (omega (arith, h))
created_by Unread h = absurd (omega (arith, h))
created_by (Routed (Ok (Created i ttl))) h = (i, ttl, refl)
created_by (Routed (Ok Gone)) h = absurd (omega (arith, h))
created_by (Routed (Ok Full)) h = absurd (omega (arith, h))
created_by (Routed (Ok IdsSpent)) h = absurd (omega (arith, h))
created_by (Routed (Err e)) h = absurd (omega (arith, h))

gone_by : (outcome : Outcome) → 410 ≡ outcome_code outcome → outcome ≡ Routed (Ok Gone)
gone_by (Faulty UnknownPath) h = absurd (omega (arith, h))
gone_by (Faulty WrongMethod) h = absurd (omega (arith, h))
gone_by (Faulty LongBody) h = absurd (omega (arith, h))
gone_by (Faulty (Head f)) h = not_head 410 f _ (λ e. omega (arith, e)) h
gone_by (Faulty BadToken) h = absurd (omega (arith, h))
gone_by Unread h = absurd (omega (arith, h))
gone_by (Routed (Ok (Created i ttl))) h = absurd (omega (arith, h))
gone_by (Routed (Ok Gone)) h = refl
gone_by (Routed (Ok Full)) h = absurd (omega (arith, h))
gone_by (Routed (Ok IdsSpent)) h = absurd (omega (arith, h))
gone_by (Routed (Err e)) h = absurd (omega (arith, h))

unavailable_by : (outcome : Outcome) → 503 ≡ outcome_code outcome → (outcome ≡ Routed (Ok Full)) ⊎ (outcome ≡ Routed (Ok IdsSpent))
unavailable_by (Faulty UnknownPath) h = absurd (omega (arith, h))
unavailable_by (Faulty WrongMethod) h = absurd (omega (arith, h))
unavailable_by (Faulty LongBody) h = absurd (omega (arith, h))
unavailable_by (Faulty (Head f)) h = not_head 503 f _ (λ e. omega (arith, e)) h
unavailable_by (Faulty BadToken) h = absurd (omega (arith, h))
unavailable_by Unread h = absurd (omega (arith, h))
unavailable_by (Routed (Ok (Created i ttl))) h = absurd (omega (arith, h))
unavailable_by (Routed (Ok Gone)) h = absurd (omega (arith, h))
unavailable_by (Routed (Ok Full)) h = inl refl
unavailable_by (Routed (Ok IdsSpent)) h = inr refl
unavailable_by (Routed (Err e)) h = absurd (omega (arith, h))

-- the code is that of want of memory, or not
not_500 : (c d : ℕ) → (c ≡ 500 → ⊥) → (c ≡ d) ⊎ (c ≡ 500) → c ≡ d
not_500 c d n (inl e) = e
not_500 c d n (inr e) = absurd (n e)

-- ---- what a route's entries say

module _ (v : DeskView) (moment : Option ℕ) (count n : ℕ) (x : Exchange) (h : IsAnswered v moment count n x) where
  abbrev closes : Bool
  closes = is_some (exchange_end x count n)

  came : (answer : Result Answer NoMemory) → x.outcome ≡ Routed answer → IsRouted v moment n x.request answer x.entries
  came answer e = (subst (λ z. ComesTo v moment n x.request z x.entries) e h.comes).1

  says : (answer : Result Answer NoMemory) (r : IsRouted v moment n x.request answer x.entries) →
      Whole (shard_of r.token v.size) (op (v.number (shard_of r.token v.size)) n) (r.millis / 1000) r.token r.ask answer x.entries
  says answer r = route_says (shard_of r.token v.size) (op (v.number (shard_of r.token v.size)) n) (r.millis / 1000) r.token r.ask answer x.entries r.route

  taken_as : (i : MsgId) (ttl : ℕ) → x.outcome ≡ Routed (Ok (Created i ttl)) → IsTaken v moment n x
  taken_as i ttl e =
      let r = came (Ok (Created i ttl)) e in
      let w = says (Ok (Created i ttl)) r in
      let named = w.id i ttl refl in
      record {
        answer = Ok (Created i ttl);
        outcome = e;
        routed = r;
        ended = w.taken;
        id = i;
        named = named.0;
        close = closes;
        told = subst (λ z. x.reply ≡ created_text i z closes) named.1 (subst (λ z. Tells z closes x.reply) e h.tells);
      }

  pub taken_only : HasCode 201 x.reply → IsTaken v moment n x
  taken_only k =
      let by = created_by x.outcome (not_500 201 (outcome_code x.outcome) (λ e. omega (arith, e)) (answered_code v moment count n x h 201 (omega arith) (omega arith) k)) in
      taken_as by.0 by.1 by.2

  pub taken_always : (answer : Result Answer NoMemory) (r : IsRouted v moment n x.request answer x.entries) → x.outcome ≡ Routed answer →
      list_any (λ m. says_taken r.ask.terms.ttl m.reply) x.entries ≡ true → HasCode 201 x.reply
  taken_always answer r e ended =
      let w = says answer r in
      let is = (created_test answer r.ask.terms.ttl _ w.taken (λ i ttl q. (w.id i ttl q).1)).1 ended in
      let told = subst (λ z. Tells z closes x.reply) (e ∙ ap (λ z. Routed z) is.1) h.tells in
      subst (HasCode 201) (sym told) (created_has is.0 r.ask.terms.ttl closes)

  pub gone_only : HasCode 410 x.reply → list_any (λ m. says_gone m.reply) x.entries ≡ true
  gone_only k =
      let e = gone_by x.outcome (not_500 410 (outcome_code x.outcome) (λ e. omega (arith, e)) (answered_code v moment count n x h 410 (omega arith) (omega arith) k)) in
      (says (Ok Gone) (came (Ok Gone) e)).gone

  pub unavailable_only : HasCode 503 x.reply → (list_any (λ m. says_full m.reply) x.entries ≡ true) ⊎ (list_any (λ m. says_spent m.reply) x.entries ≡ true)
  unavailable_only k = by_cause (unavailable_by x.outcome (not_500 503 (outcome_code x.outcome) (λ e. omega (arith, e)) (answered_code v moment count n x h 503 (omega arith) (omega arith) k)))
    where
      by_cause : (x.outcome ≡ Routed (Ok Full)) ⊎ (x.outcome ≡ Routed (Ok IdsSpent)) → (list_any (λ m. says_full m.reply) x.entries ≡ true) ⊎ (list_any (λ m. says_spent m.reply) x.entries ≡ true)
      by_cause (inl e) = inl (says (Ok Full) (came (Ok Full) e)).full
      by_cause (inr e) = inr (says (Ok IdsSpent) (came (Ok IdsSpent) e)).spent

  -- ---- where nothing stands against it

  refused_not : (fault : Fault) (L : Type 0) → first_fault x.request ≡ None → x.outcome ≡ Faulty fault → L
  refused_not fault L none e =
      let is = (subst (λ z. ComesTo v moment n x.request z x.entries) e h.comes).0 in
      let odd : Some fault ≡ None = sym is ∙ none in cc

  other_not : (b : Bool) (L : Type 0) → b ≡ true → b ≡ false → L
  other_not b L e f = let odd : true ≡ false = sym e ∙ f in cc

  told_as : (outcome : Outcome) → x.outcome ≡ outcome → HasCode (outcome_code outcome) x.reply ⊎ HasCode 500 x.reply
  told_as outcome e = told_has outcome closes x.reply (subst (λ z. Tells z closes x.reply) e h.tells)

  only_500 : HasCode 500 x.reply ⊎ HasCode 500 x.reply → HasCode 500 x.reply
  only_500 (inl k) = k
  only_500 (inr k) = k

  pub taken_or_wanted : first_fault x.request ≡ None → list_any (λ m. says_gone m.reply) x.entries ≡ false → list_any (λ m. says_full m.reply) x.entries ≡ false →
      list_any (λ m. says_spent m.reply) x.entries ≡ false → HasCode 201 x.reply ⊎ HasCode 500 x.reply
  taken_or_wanted none gone full spent = by_outcome x.outcome refl
    where
      by_outcome : (outcome : Outcome) → x.outcome ≡ outcome → HasCode 201 x.reply ⊎ HasCode 500 x.reply
      by_outcome (Faulty fault) e = refused_not fault _ none e
      by_outcome Unread e = inr (only_500 (told_as Unread e))
      by_outcome (Routed (Ok (Created i ttl))) e = told_as (Routed (Ok (Created i ttl))) e
      by_outcome (Routed (Ok Gone)) e = other_not _ _ (says (Ok Gone) (came (Ok Gone) e)).gone gone
      by_outcome (Routed (Ok Full)) e = other_not _ _ (says (Ok Full) (came (Ok Full) e)).full full
      by_outcome (Routed (Ok IdsSpent)) e = other_not _ _ (says (Ok IdsSpent) (came (Ok IdsSpent) e)).spent spent
      by_outcome (Routed (Err f)) e = inr (only_500 (told_as (Routed (Err f)) e))
