-- Request after request.
use Rattle.std.proofs.Common.{◌≡◌, ◌↔◌, ◌⊎◌, ℕ, ◌+◌, ◌≤◌, ◌<◌, ◌^◌, ◌/◌, Bool, true, false, cond, ◌||◌, inl, inr, List, [], ◌∷◌, ◌++◌, length, refl, sym, ap, subst, ◌∙◌, append_assoc, arith}
use Rattle.std.specs.Prelude.{Option, Some, None, Result, Ok, Err, IfErr, IfOk, IsTrue, nat_le}
use Rattle.std.specs.Io.KnownBytes.{Appends}
use Rattle.std.specs.List.{list_any}
use Rattle.std.proofs.lemmas.Bool.Decides.{nat_tests}
use Rattle.std.proofs.lemmas.List.{append-nil, length_push}
use Rattle.push_model.specs.DeskViews.{Calls, DeskView, IsHonest, IsSameDesk, Made, Written, world_at}
use Rattle.push_model.proofs.DeskLemmas.{calls_more, calls_none, mails_more}
use Rattle.push_model.proofs.Accounted.{accounted}
use Rattle.push_model.proofs.Reached.{reached_cared}
use Rattle.push_model.proofs.Routes.{honest_reached}
use Rattle.push_model.specs.Accounting.{IsAccounted}
use Rattle.push_model.specs.Caring.{is_cared}
use Rattle.push_model.specs.Histories.{IsLegal}
use Rattle.push_model.specs.Steps.{step}
use Rattle.push_model.specs.Worlds.{start}
use Rattle.push_outside.specs.Counts.{Rose, next_count}
use Rattle.http_bytes.specs.declared.fault.WireFault.{WireFault}
use Rattle.http_bytes.specs.Moves.{Takes}
use Rattle.http_bytes.specs.Puts.{WritesAll}
use Rattle.http_bytes.proofs.Flow.{Appends-none, Appends-then, Keeps-same, Takes-none, Takes-then}
use Rattle.http_wire.specs.declared.body.Body.{Body}
use Rattle.http_wire.specs.declared.body.Body.TheVariants.{Bytes, TooLong}
use Rattle.http_wire.specs.declared.request.Request.{Request}
use Rattle.http_wire.specs.HeadValue.{HeadValue}
use Rattle.endpoint_router.specs.Routes.{IsRoute}
use Rattle.endpoint_router.specs.Shards.{shard_of}
use Rattle.endpoint_router.specs.Went.{is_lost}
use Rattle.http_front.specs.declared.ends.HttpEnd.{HttpEnd}
use Rattle.http_front.specs.declared.ends.HttpEnd.TheVariants.{Fault, Asked, Limit, LongBody, OpsSpent}
use Rattle.http_front.specs.declared.outcome.Outcome.{Outcome}
use Rattle.http_front.specs.declared.outcome.Outcome.TheVariants.{Faulty, Unread, Routed}
use Rattle.http_front.specs.Connections.{is_last}
use Rattle.http_front.specs.Exchanges.{ArePosts, ComesTo, Exchange, IsAnswered, OnlyPosts, body_end, count_end, end_after, exchange_end, numbers_used, op, or_end, request_end, spent_end}
use Rattle.http_front.specs.Served.{AreAnswered, EndCausedBy, EndsSo, IsOfWrite, Replied, Scene, Served, entries_of, numbers_of, replies_of, texts_of}
use Rattle.http_front.specs.Steps.{Broken, Exchanged}
use Rattle.http_front.proofs.ComingLemmas.{no_posts}

-- ---- ends after an answer

from_or : (wish other : Option HttpEnd) → or_end wish other ≡ None → (wish ≡ None) × (other ≡ None)
from_or None other h = (refl, h)
from_or (Some e) other h = let odd : Some e ≡ None = h in cc

spent_not : (n : ℕ) (b : Bool) → nat_le (2 ^ 63) n ≡ b → spent_end n ≡ None → n < 2 ^ 63
spent_not n true e h = let odd : Some OpsSpent ≡ None = (ap (λ (z : Bool). cond z (Some OpsSpent) None) (sym e) ∙ h) in cc
spent_not n false e h = grind (arith, nat_tests, e)

count_not : (count n : ℕ) (b : Bool) → nat_le 1000 count ≡ b → count_end count n ≡ None → (count < 1000) × (spent_end n ≡ None)
count_not count n true e h = let odd : Some Limit ≡ None = (ap (λ (z : Bool). cond z (Some Limit) (spent_end n)) (sym e) ∙ h) in cc
count_not count n false e h = (grind (arith, nat_tests, e), ap (λ (z : Bool). cond z (Some Limit) (spent_end n)) (sym e) ∙ h)

-- where nothing ends the connection there are fewer than 1,000, and there is a number for the next flight
goes_on : (wish : Option HttpEnd) (count n : ℕ) → end_after wish count n ≡ None → (count < 1000) × (n < 2 ^ 63)
goes_on wish count n h =
    let c = count_not count n (nat_le 1000 count) refl (from_or wish (count_end count n) h).1 in
    (c.0, spent_not n (nat_le (2 ^ 63) n) refl c.1)

spent_now : (n : ℕ) (b : Bool) → nat_le (2 ^ 63) n ≡ b → 2 ^ 63 ≤ n → Some OpsSpent ≡ spent_end n
spent_now n true e le = ap (λ (z : Bool). cond z (Some OpsSpent) None) (sym e)
spent_now n false e le = absurd (grind (arith, nat_tests, e, le))

not_spent : (n : ℕ) (b : Bool) → nat_le (2 ^ 63) n ≡ b → n < 2 ^ 63 → None ≡ spent_end n
not_spent n true e low = absurd (grind (arith, nat_tests, e, low))
not_spent n false e low = ap (λ (z : Bool). cond z (Some OpsSpent) None) (sym e)

-- and no such end is a fault
abbrev IsNoFault : Option HttpEnd → Type 0
IsNoFault None = Unit {0}
IsNoFault (Some (Fault f)) = ⊥
IsNoFault (Some e) = Unit {0}

no_fault_if : (b : Bool) (e f : Option HttpEnd) → IsNoFault e → IsNoFault f → IsNoFault (cond b e f)
no_fault_if true e f h k = h
no_fault_if false e f h k = k

no_fault_or : (e f : Option HttpEnd) → IsNoFault e → IsNoFault f → IsNoFault (or_end e f)
no_fault_or None f h k = k
no_fault_or (Some e) f h k = h

body_no_fault : (body : Body) (head : HeadValue) → IsNoFault (body_end body head)
body_no_fault TooLong head = tt
body_no_fault (Bytes payload) head = no_fault_if (is_last head) (Some Asked) None tt tt

no_fault : (x : Exchange) (count n : ℕ) → IsNoFault (exchange_end x count n)
no_fault x count n =
    no_fault_or (request_end x.request) (count_end count (n + numbers_used x.outcome)) (body_no_fault x.request.body x.request.head)
    (no_fault_if (nat_le 1000 count) (Some Limit) (spent_end (n + numbers_used x.outcome)) tt (no_fault_if (nat_le (2 ^ 63) (n + numbers_used x.outcome)) (Some OpsSpent) None tt tt))

-- ---- one exchange behind others

texts_more : (xs : List Exchange) (x : Exchange) → texts_of (xs ++ x ∷ []) ≡ texts_of xs ++ x.text
texts_more [] x = append-nil x.text
texts_more (y ∷ xs) x = ap (λ z. y.text ++ z) (texts_more xs x) ∙ sym (append_assoc y.text (texts_of xs) x.text)

replies_more : (xs : List Exchange) (x : Exchange) → replies_of (xs ++ x ∷ []) ≡ replies_of xs ++ x.reply
replies_more [] x = append-nil x.reply
replies_more (y ∷ xs) x = ap (λ z. y.reply ++ z) (replies_more xs x) ∙ sym (append_assoc y.reply (replies_of xs) x.reply)

entries_more : (xs : List Exchange) (x : Exchange) → entries_of (xs ++ x ∷ []) ≡ entries_of xs ++ x.entries
entries_more [] x = append-nil x.entries
entries_more (y ∷ xs) x = ap (λ z. y.entries ++ z) (entries_more xs x) ∙ sym (append_assoc y.entries (entries_of xs) x.entries)

numbers_more : (xs : List Exchange) (x : Exchange) → numbers_of (xs ++ x ∷ []) ≡ numbers_of xs + numbers_used x.outcome
numbers_more [] x = omega arith
numbers_more (y ∷ xs) x = let more = numbers_more xs x in omega (arith, more)

-- it is told of desks with the same shards and numbers
comes_as : (a b : DeskView) (moment : Option ℕ) (n : ℕ) (r : Request) (outcome : Outcome) (ms : List Made) → IsSameDesk a b → ComesTo b moment n r outcome ms → ComesTo a moment n r outcome ms
comes_as a b moment n r (Faulty fault) ms same h = h
comes_as a b moment n r Unread ms same h = h
comes_as a b moment n r (Routed answer) ms same (none, h) =
    let sized = subst (λ z. IsRoute (shard_of h.token z) (op (b.number (shard_of h.token z)) n) (h.millis / 1000) h.token h.ask answer ms) same.size h.route in (
      none,
      record {
        token = h.token;
        ask = h.ask;
        asks = h.asks;
        millis = h.millis;
        told = h.told;
        route = subst (λ z. IsRoute (shard_of h.token a.size) (op z n) (h.millis / 1000) h.token h.ask answer ms) (same.number (shard_of h.token a.size)) sized;
      },
    )

answered_as : (a b : DeskView) (moment : Option ℕ) (count n : ℕ) (x : Exchange) → IsSameDesk a b → IsAnswered b moment count n x → IsAnswered a moment count n x
answered_as a b moment count n x same h = record { is = h.is; comes = comes_as a b moment n x.request x.outcome x.entries same h.comes; tells = h.tells }

answered_more : (v : DeskView) (moment : Option ℕ) (now : Option HttpEnd) (count n c m : ℕ) (xs : List Exchange) (x : Exchange) → c ≡ count + length xs → m ≡ n + numbers_of xs →
    AreAnswered v moment now count n xs None → IsAnswered v moment (c + 1) m x → AreAnswered v moment now count n (xs ++ x ∷ []) (exchange_end x (c + 1) m)
answered_more v moment now count n c m [] x e f h i =
    let same_count : c ≡ count = omega arith in
    let same_number : m ≡ n = omega arith in (
      sym h,
      subst (λ z. IsAnswered v moment (count + 1) z x) same_number (subst (λ z. IsAnswered v moment (z + 1) m x) same_count i),
      ap (λ z. exchange_end x (z + 1) m) same_count ∙ ap (λ z. exchange_end x (count + 1) z) same_number,
    )
answered_more v moment now count n c m (y ∷ xs) x e f h i =
    (h.0, h.1, answered_more v moment (exchange_end y (count + 1) n) (count + 1) (n + numbers_used y.outcome) c m xs x (omega arith) (omega arith) h.2 i)

-- ---- what holds between two requests

pub record ServedSoFar (moment : Option ℕ) (count : ℕ) (rest : List ℕ) (a b : Scene) : Type 0 where
  pub exchanges : List Exchange
  pub answered : AreAnswered a.desks moment (spent_end a.number) 0 a.number exchanges None
  pub size : length exchanges ≡ count
  pub calls : Calls a.desks b.desks (entries_of exchanges)
  pub mail : OnlyPosts a.desks b.desks
  pub faults : a.losses ≤ b.losses
  pub losses : list_any is_lost (entries_of exchanges) ≡ true → Rose a.losses b.losses
  pub numbers : b.number ≡ a.number + numbers_of exchanges
  pub takes : Takes a.left b.left [] rest (texts_of exchanges)
  pub replied : Appends a.written b.written (replies_of exchanges)
  pub few : count < 1000
  pub room : b.number < 2 ^ 63

no_loss : (L : Type 0) → false ≡ true → L
no_loss L e = let odd : false ≡ true = e in cc

none_served : (moment : Option ℕ) (a : Scene) → a.number < 2 ^ 63 → ServedSoFar moment 0 [] a a
none_served moment a low = record {
  exchanges = [];
  answered = not_spent a.number (nat_le (2 ^ 63) a.number) refl low;
  size = refl;
  calls = calls_none a.desks;
  mail = no_posts a.desks;
  faults = omega arith;
  losses = no_loss _;
  numbers = omega arith;
  takes = Takes-none a.left [];
  replied = Appends-none a.written a.written (Keeps-same a.written);
  few = omega arith;
  room = low;
}

pub none_yet : (moment : Option ℕ) (rest : List ℕ) (a : Scene) → rest ≡ [] → a.number < 2 ^ 63 → ServedSoFar moment 0 rest a a
none_yet moment rest a e low = subst (λ z. ServedSoFar moment 0 z a a) (sym e) (none_served moment a low)

-- no request is read where no number is left
pub none_left : (moment : Option ℕ) (a : Scene) → 2 ^ 63 ≤ a.number → Served moment OpsSpent a a
none_left moment a le = record {
  exchanges = [];
  last = Some OpsSpent;
  answered = spent_now a.number (nat_le (2 ^ 63) a.number) refl le;
  calls = calls_none a.desks;
  mail = no_posts a.desks;
  losses = no_loss _;
  numbers = omega arith;
  ends = (refl, record { kept = []; takes = Takes-none a.left []; replied = Appends-none a.written a.written (Keeps-same a.written) });
}

-- ---- one more

posts_more : (vs ws : List Written) → ArePosts vs → ArePosts ws → ArePosts (vs ++ ws)
posts_more [] ws f g = g
posts_more (v ∷ vs) ws f g = (f.0, posts_more vs ws f.1 g)

mail_more : (a b c : DeskView) → OnlyPosts a b → OnlyPosts b c → OnlyPosts a c
mail_more a b c f g = (f.0 ++ g.0, posts_more f.0 g.0 f.1 g.1, mails_more a b c f.0 g.0 f.2 g.2)

any_append : {A : Type 0} → (p : A → Bool) (xs ys : List A) (L : Type 0) → (list_any p xs ≡ true → L) → (list_any p ys ≡ true → L) → list_any p (xs ++ ys) ≡ true → L
any_append p [] ys L f g h = g h
any_append p (x ∷ xs) ys L f g h = any_cons (p x) (list_any p (xs ++ ys)) (list_any p xs) L f (any_append p xs ys L) g h
  where
    any_cons : (b both left : Bool) (L : Type 0) → ((b || left) ≡ true → L) → ((left ≡ true → L) → ((list_any p ys) ≡ true → L) → both ≡ true → L) → (list_any p ys ≡ true → L) → (b || both) ≡ true → L
    any_cons true both left L f rest g h = f refl
    any_cons false both left L f rest g h = rest f g h

later : (f g h : ℕ) → f ≤ g → g ≤ h → f ≤ h
later f g h p q = omega arith

rose_on : (f g h : ℕ) → Rose f g → g ≤ h → Rose f h
rose_on f g h p q = later (next_count f) g h p q

rose_after : (f g h : ℕ) → f ≤ g → Rose g h → Rose f h
rose_after f g h p q = later (next_count f) (next_count g) h (omega arith) q

pub record OneMore (moment : Option ℕ) (count : ℕ) (result : Result (Option HttpEnd) WireFault) (rest : List ℕ) (a c : Scene) : Type 0 where
  pub whole : List Exchange
  pub size : length whole ≡ count
  pub cut : Exchange
  pub number : ℕ
  pub answered : AreAnswered a.desks moment (spent_end a.number) 0 a.number (whole ++ cut ∷ []) (exchange_end cut (count + 1) number)
  pub calls : Calls a.desks c.desks (entries_of (whole ++ cut ∷ []))
  pub mail : OnlyPosts a.desks c.desks
  pub losses : list_any is_lost (entries_of (whole ++ cut ∷ [])) ≡ true → Rose a.losses c.losses
  pub numbers : c.number ≡ a.number + numbers_of (whole ++ cut ∷ [])
  pub next : c.number ≡ number + numbers_used cut.outcome
  pub takes : Takes a.left c.left [] rest (texts_of (whole ++ cut ∷ []))
  pub written : Option (List ℕ)
  pub replied : Appends a.written written (replies_of whole)
  pub writes : WritesAll result cut.reply written c.written
  pub end : IfOk result (λ e. e ≡ exchange_end cut (count + 1) number)
  pub of_write : IfErr result IsOfWrite

pub one_more : (moment : Option ℕ) (count : ℕ) (result : Result (Option HttpEnd) WireFault) (rest new : List ℕ) (a b c : Scene) → ServedSoFar moment count rest a b → b.losses ≤ c.losses →
    Exchanged moment (count + 1) result rest new b c → OneMore moment count result new a c
one_more moment count result rest new a b c so le h =
    let x = h.exchange in
    let all = so.exchanges in
    record {
      whole = all;
      size = so.size;
      cut = x;
      number = b.number;
      answered = answered_more a.desks moment (spent_end a.number) 0 a.number count b.number all x (sym so.size ∙ omega arith) so.numbers so.answered
          (answered_as a.desks b.desks moment (count + 1) b.number x so.calls.same h.answered);
      calls = subst (λ z. Calls a.desks c.desks z) (sym (entries_more all x)) (calls_more a.desks b.desks c.desks (entries_of all) x.entries so.calls h.calls);
      mail = mail_more a.desks b.desks c.desks so.mail h.mail;
      losses = subst (λ z. list_any is_lost z ≡ true → Rose a.losses c.losses) (sym (entries_more all x))
          (any_append is_lost (entries_of all) x.entries (Rose a.losses c.losses) (λ e. rose_on a.losses b.losses c.losses (so.losses e) le) (λ e. rose_after a.losses b.losses c.losses so.faults (h.losses e)));
      numbers = omega (arith, h.number, so.numbers, numbers_more all x);
      next = h.number;
      takes = subst (λ z. Takes a.left c.left [] new z) (sym (texts_more all x)) (Takes-then a.left b.left c.left [] rest new (texts_of all) x.text so.takes h.takes);
      written = b.written;
      replied = so.replied;
      writes = h.written;
      end = h.end;
      of_write = h.of_write;
    }

-- ---- where it goes on

pub served_on : (moment : Option ℕ) (count : ℕ) (rest : List ℕ) (a c : Scene) → a.losses ≤ c.losses → OneMore moment count (Ok None) rest a c → ServedSoFar moment (count + 1) rest a c
served_on moment count rest a c le h =
    let on = goes_on (request_end h.cut.request) (count + 1) (h.number + numbers_used h.cut.outcome) (sym h.end) in
    record {
      exchanges = h.whole ++ h.cut ∷ [];
      answered = subst (λ z. AreAnswered a.desks moment (spent_end a.number) 0 a.number (h.whole ++ h.cut ∷ []) z) (sym h.end) h.answered;
      size = length_push h.whole h.cut ∙ ap (λ z. z + 1) h.size;
      calls = h.calls;
      mail = h.mail;
      faults = le;
      losses = h.losses;
      numbers = h.numbers;
      takes = h.takes;
      replied = subst (λ z. Appends a.written c.written z) (sym (replies_more h.whole h.cut)) (Appends-then a.written h.written c.written (replies_of h.whole) h.cut.reply h.replied h.writes);
      few = on.0;
      room = subst (λ z. z < 2 ^ 63) (sym h.next) on.1;
    }

-- ---- where it ends

ends_so : (end : HttpEnd) (xs : List Exchange) (last : Option HttpEnd) (a b : Scene) → IsNoFault (Some end) → last ≡ Some end → Replied xs a b → EndsSo end last xs a b
ends_so (Fault f) xs last a b n e r = absurd n
ends_so Asked xs last a b n e r = (e, r)
ends_so Limit xs last a b n e r = (e, r)
ends_so LongBody xs last a b n e r = (e, r)
ends_so OpsSpent xs last a b n e r = (e, r)

pub served_end : (moment : Option ℕ) (count : ℕ) (end : HttpEnd) (rest : List ℕ) (a c : Scene) → OneMore moment count (Ok (Some end)) rest a c → Served moment end a c
served_end moment count end rest a c h = record {
  exchanges = h.whole ++ h.cut ∷ [];
  last = exchange_end h.cut (count + 1) h.number;
  answered = h.answered;
  calls = h.calls;
  mail = h.mail;
  losses = h.losses;
  numbers = h.numbers;
  ends = ends_so end (h.whole ++ h.cut ∷ []) _ a c (subst IsNoFault (sym h.end) (no_fault h.cut (count + 1) h.number)) (sym h.end) (record {
    kept = rest;
    takes = h.takes;
    replied = subst (λ z. Appends a.written c.written z) (sym (replies_more h.whole h.cut)) (Appends-then a.written h.written c.written (replies_of h.whole) h.cut.reply h.replied h.writes);
  });
}

pub served_cut : (moment : Option ℕ) (count : ℕ) (fault : WireFault) (rest : List ℕ) (a c : Scene) → OneMore moment count (Err fault) rest a c → Served moment (Fault fault) a c
served_cut moment count fault rest a c h = record {
  exchanges = h.whole ++ h.cut ∷ [];
  last = exchange_end h.cut (count + 1) h.number;
  answered = h.answered;
  calls = h.calls;
  mail = h.mail;
  losses = h.losses;
  numbers = h.numbers;
  ends = inr (record { of_write = h.of_write; kept = rest; takes = h.takes; whole = h.whole; cut = h.cut; parts = refl; written = h.written; replied = h.replied; front = h.writes });
}

pub served_broken : (moment : Option ℕ) (count : ℕ) (fault : WireFault) (rest : List ℕ) (a b c : Scene) → ServedSoFar moment count rest a b → Broken fault rest b c → Served moment (Fault fault) a c
served_broken moment count fault rest a b c so h = record {
  exchanges = so.exchanges;
  last = None;
  answered = so.answered;
  calls = subst (λ z. Calls a.desks z (entries_of so.exchanges)) (sym h.desks) so.calls;
  mail = subst (λ z. OnlyPosts a.desks z) (sym h.desks) so.mail;
  losses = λ e. subst (λ z. Rose a.losses z) (sym h.losses) (so.losses e);
  numbers = h.number ∙ so.numbers;
  ends = inl (record { goes_on = refl; kept = rest; left = b.left; written = b.written; takes = so.takes; replied = so.replied; why = h.why; breaks = h.breaks; told = h.told });
}

-- by the answer of the next
pub served_fault : (moment : Option ℕ) (count : ℕ) (fault : WireFault) (rest new : List ℕ) (a b c : Scene) → ServedSoFar moment count rest a b → b.losses ≤ c.losses →
    Exchanged moment (count + 1) (Err fault) rest new b c ⊎ Broken fault rest b c → Served moment (Fault fault) a c
served_fault moment count fault rest new a b c so le (inl h) = served_cut moment count fault new a c (one_more moment count (Err fault) rest new a b c so le h)
served_fault moment count fault rest new a b c so le (inr h) = served_broken moment count fault rest a b c so h

-- ---- causes

pub end_caused : (end : HttpEnd) (before now lulls : ℕ) → IsNoFault (Some end) → before ≤ now → EndCausedBy end before now lulls
end_caused (Fault f) before now lulls n h = absurd n
end_caused Asked before now lulls n h = h
end_caused Limit before now lulls n h = h
end_caused LongBody before now lulls n h = h
end_caused OpsSpent before now lulls n h = h

-- ---- by the answer of the next

pub next_on : (moment : Option ℕ) (count : ℕ) (e : Option HttpEnd) (rest new : List ℕ) (a b c : Scene) → e ≡ None → a.losses ≤ c.losses → b.losses ≤ c.losses → ServedSoFar moment count rest a b →
    Exchanged moment (count + 1) (Ok e) rest new b c → ServedSoFar moment (count + 1) new a c
next_on moment count e rest new a b c is all le so h =
    served_on moment count new a c all (subst (λ z. OneMore moment count (Ok z) new a c) is (one_more moment count (Ok e) rest new a b c so le h))

pub next_ends : (moment : Option ℕ) (count : ℕ) (e : Option HttpEnd) (end : HttpEnd) (rest new : List ℕ) (a b c : Scene) → e ≡ Some end → b.losses ≤ c.losses → ServedSoFar moment count rest a b →
    Exchanged moment (count + 1) (Ok e) rest new b c → Served moment end a c
next_ends moment count e end rest new a b c is le so h =
    served_end moment count end new a c (subst (λ z. OneMore moment count (Ok z) new a c) is (one_more moment count (Ok e) rest new a b c so le h))

pub next_caused : (moment : Option ℕ) (count : ℕ) (e : Option HttpEnd) (end : HttpEnd) (rest new : List ℕ) (b c : Scene) (before now lulls : ℕ) → e ≡ Some end → before ≤ now →
    Exchanged moment count (Ok e) rest new b c → EndCausedBy end before now lulls
next_caused moment count e end rest new b c before now lulls is le h = end_caused end before now lulls (subst IsNoFault (sym h.end ∙ is) (no_fault h.exchange count b.number)) le

-- ---- numbers that are spent, or not

pub spent_when : (b : Bool) (n : ℕ) → b ≡ true → IsTrue b ↔ (2 ^ 63 ≤ n) → 2 ^ 63 ≤ n
spent_when true n e h = h.0 refl
spent_when false n e h = let odd : false ≡ true = e in cc

unspent : (n : ℕ) (b : Bool) → nat_le (2 ^ 63) n ≡ b → (2 ^ 63 ≤ n → ⊥) → n < 2 ^ 63
unspent n true e h = absurd (h (grind (arith, nat_tests, e)))
unspent n false e h = grind (arith, nat_tests, e)

pub unspent_when : (b : Bool) (n : ℕ) → b ≡ false → IsTrue b ↔ (2 ^ 63 ≤ n) → n < 2 ^ 63
unspent_when true n e h = let odd : true ≡ false = e in cc
unspent_when false n e h = unspent n (nat_le (2 ^ 63) n) refl (λ le. let odd : false ≡ true = h.1 le in cc)

-- ---- what honest desks have seen

pub honest_accounted : (v : DeskView) → IsHonest v → (k number next : ℕ) → v.opened k ≡ start number next → IsAccounted (start number next) (v.seen k)
honest_accounted v h k number next is = accounted number next (v.seen k) (subst (λ z. IsLegal step z (v.seen k)) is (h.legal k))

pub honest_cared : (v : DeskView) → IsHonest v → (k : ℕ) → is_cared (world_at v k) ≡ true
honest_cared v h k = reached_cared (world_at v k) (honest_reached v k h)

-- ---- how many requests a connection has

few_more : (v : DeskView) (moment : Option ℕ) (now last : Option HttpEnd) (count n : ℕ) (xs : List Exchange) → count ≤ 1000 → (now ≡ None → count < 1000) → AreAnswered v moment now count n xs last →
    count + length xs ≤ 1000
few_more v moment now last count n [] le low h = omega (arith, le)
few_more v moment now last count n (x ∷ xs) le low h =
    let less : count < 1000 = low h.0 in
    let more : (count + 1) + length xs ≤ 1000 =
    few_more v moment (exchange_end x (count + 1) n) last (count + 1) (n + numbers_used x.outcome) xs (omega (arith, less)) (λ e. (goes_on (request_end x.request) (count + 1) (n + numbers_used x.outcome) e).0) h.2 in
    omega (arith, more)

pub at_most_1000 : (v : DeskView) (moment : Option ℕ) (n : ℕ) (xs : List Exchange) (last : Option HttpEnd) → AreAnswered v moment (spent_end n) 0 n xs last → length xs ≤ 1000
at_most_1000 v moment n xs last h = let few = few_more v moment (spent_end n) last 0 n xs (omega arith) (λ e. omega arith) h in omega (arith, few)
