-- The steps of users and sessions leave a cell tidy.
use Rattle.std.proofs.Common.{◌≡◌, ℕ, ◌≤◌, Bool, true, false, ◌&&◌, inl, inr, List, [], ◌∷◌, ◌++◌, refl, ◌∙◌, ap, sym, subst, arith}
use Rattle.std.specs.Prelude.{map, Option, Some, None, find, is_some, nat_lt, ◌==◌, if◌then◌else◌}
use Rattle.std.specs.List.{list_any}
use Rattle.std.proofs.lemmas.Bool.Decides.{nat_tests}
use Rattle.push_model.specs.declared.ids.ChannelId.{ChannelId}
use Rattle.push_model.specs.declared.ids.MsgId.{MsgId}
use Rattle.push_model.specs.declared.ids.Token.{Token}
use Rattle.push_model.specs.declared.parts.Channel.{Channel}
use Rattle.push_model.specs.declared.parts.Claim.{Claim}
use Rattle.push_model.specs.declared.reply.AckedFrom.TheVariants.{Direct as FromDirect, Stored as FromStored}
use Rattle.push_model.specs.declared.reply.Reply.TheVariants.{Made, Taken, Stale, Claimed, Kept, Dropped, NoSession, NotClaimed, Outrun, Attached, Acked, Unknown, Done, Renewed, Due, NotDue}
use Rattle.push_model.specs.declared.step.Fetch.{Fetch}
use Rattle.push_model.specs.declared.step.Fetch.TheVariants.{Idle, Topic, Plain}
use Rattle.push_model.specs.SessionKey.{SessionKey}
use Rattle.push_model.specs.Keyed.{with_first, without_first}
use Rattle.push_model.specs.Sessions.{Session, acked_in, checked, displaced, fetched, fetching, forgot, has_direct, held, is_attached, is_attached_at, is_due, new_session, taken, was_sent}
use Rattle.push_model.specs.Cells.{Cell, User, Saver, channels_of, is_channel, is_claim, rows_of, unmarked_for}
use Rattle.push_model.specs.Outcomes.{Outcome, outcome}
use Rattle.push_model.specs.UserSteps.{new_user, new_claim, create, claimed_user, claim, claim_of, is_idle_user, drop_user, expire, dropped}
use Rattle.push_model.specs.SessionSteps.{joined, attach, attach_beside, attached, with_session, register, register_beside, with_channel, unregister, without_channel, take_direct, take_direct_of, without_row, acked, ack, ack_of, is_renewable, renew, renewed}
use Rattle.push_model.specs.FetchSteps.{take_check, take_check_of, fetch_page, fetch_topic, fetch_topic_at, fetch_topic_of, fetch_plain, fetch_plain_at, fetch_plain_of}
use Rattle.push_model.proofs.Members.{In, from_map, in-snoc, true_not_false}
use Rattle.push_model.proofs.Marks.{and_left, and_right}
use Rattle.push_model.proofs.Care.{IsWithin, CareFacts}
use Rattle.push_laws.proofs.Counts.{one, amount, amount-map, amount-moved, amount-none, amount-snoc, amount-with, amount-without}
use Rattle.push_laws.proofs.UserRows.{RowFacts, unmarked_for_fewer, renewed_fewer, with_channel_fewer, without_channel_fewer, without_row_fewer}
use Rattle.push_laws.proofs.Actors.{Actors, IsBounded, claim_key, session_key, saver_key, keyed_amount, sessions_actors, taken_bound, acked_bound}
use Rattle.push_laws.proofs.Tidy.{Tidy, user_tidy, session_tidy, dropped_tidy}

pub either_tidy : (moment : ℕ) (b : Bool) (m n : Outcome) → Tidy moment m.cell → Tidy moment n.cell → Tidy moment (if b then m else n).cell
either_tidy moment true m n h k = h
either_tidy moment false m n h k = k

-- ---- a new claim

-- nothing of the cell has that moment
pub record IsFresh (a : ℕ) (c : Cell) : Type 0 where
  pub claims : (k : Claim) → In k c.claims → (k.at == a) ≡ false
  pub sessions : (x : Session) → In x c.sessions → (x.at == a) ≡ false
  pub savers : (v : Saver) → In v c.savers → (v.at == a) ≡ false

no_and : (a b : Bool) → b ≡ false → (a && b) ≡ false
no_and true b e = e
no_and false b e = refl

pub same_number : (a b : ℕ) → (a == b) ≡ true → a ≡ b
same_number a b e = grind (arith, nat_tests)

fresh_keys : (n a : ℕ) (s : SessionKey) (c : Cell) (b : Bool) → claim_key n a (new_claim s) ≡ b → IsFresh s.at c → Actors c →
    keyed_amount n a (c.claims ++ new_claim s ∷ []) c.sessions c.savers ≤ 1
fresh_keys n a s c false e f h =
    let k = amount-snoc (claim_key n a) c.claims (new_claim s) in
    let z : one (claim_key n a (new_claim s)) ≡ 0 = ap one e in
    let l = h.keys n a in
    omega (arith, k, l, z)
fresh_keys n a s c true e f h =
    let q = same_number s.at a (and_right (s.node == n) (s.at == a) e) in
    let k = amount-snoc (claim_key n a) c.claims (new_claim s) in
    let z : one (claim_key n a (new_claim s)) ≡ 1 = ap one e in
    let x = amount-none (claim_key n a) c.claims (λ y i. no_and (y.node == n) (y.at == a) (ap (λ m. y.at == m) (sym q) ∙ f.claims y i)) in
    let y = amount-none (session_key n a) c.sessions (λ y i. no_and (y.node == n) (y.at == a) (ap (λ m. y.at == m) (sym q) ∙ f.sessions y i)) in
    let v = amount-none (saver_key n a) c.savers (λ y i. no_and (y.node == n) (y.at == a) (ap (λ m. y.at == m) (sym q) ∙ f.savers y i)) in
    omega (arith, k, z, x, y, v)

claimed_tidy : (moment : ℕ) (s : SessionKey) (u : User) (c : Cell) → IsFresh s.at c → RowFacts moment (Some u) → ((a : ℕ) → IsWithin a c.user → IsWithin a (Some u)) →
    Tidy moment c → Tidy moment (record c { user = Some u; claims = c.claims ++ new_claim s ∷ [] })
claimed_tidy moment s u c f r w h =
    record {
      rows = r;
      actors =
          record {
            keys = λ n a. fresh_keys n a s c (claim_key n a (new_claim s)) refl f h.actors;
            sessions = h.actors.sessions;
            savers = λ v i. let b = h.actors.savers v i in record { within = w v.at b.within; bounded = b.bounded };
          };
    }

no_user : (a : ℕ) (o : Option User) → is_some o ≡ false → IsWithin a o → ⊥
no_user a None e w = w
no_user a (Some u) e w = true_not_false e

create_by : (moment k : ℕ) (s : SessionKey) (c : Cell) (b : Bool) → is_some c.user ≡ b → CareFacts c → Tidy moment c →
    Tidy moment (if b then outcome c Taken else outcome (record c { user = Some (new_user k s); claims = c.claims ++ new_claim s ∷ [] }) Made).cell
create_by moment k s c true e r h = h
create_by moment k s c false e r h =
    claimed_tidy moment s (new_user k s) c (record {
      claims = λ x i. absurd (no_user x.at c.user e (r.claims x i));
      sessions = λ x i. absurd (no_user x.at c.user e (r.sessions x i));
      savers = λ x i. absurd (no_user x.at c.user e (h.actors.savers x i).within);
    }) (record { topics = λ m. omega arith; registered = λ x i. elim i [ ]; lasting = λ x i. elim i [ ] })
    (λ a w. absurd (no_user a c.user e w)) h

pub create_tidy : (moment k : ℕ) (s : SessionKey) (c : Cell) → CareFacts c → Tidy moment c → Tidy moment (create k s c).cell
create_tidy moment k s c r h = create_by moment k s c (is_some c.user) refl r h

older : (a b n : ℕ) → nat_lt a b ≡ true → n ≤ a → (n == b) ≡ false
older a b n l w = grind (arith, nat_tests)

later_still : (a b n : ℕ) → nat_lt a b ≡ true → n ≤ a → n ≤ b
later_still a b n l w = grind (arith, nat_tests)

claim_by : (moment k : ℕ) (s : SessionKey) (u : User) (c : Cell) (b : Bool) → c.user ≡ Some u → nat_lt u.route.at s.at ≡ b → CareFacts c → Tidy moment c →
    Tidy moment (if b then outcome (record c { user = Some (claimed_user k s u); claims = c.claims ++ new_claim s ∷ [] }) (Claimed u.route.node) else outcome c (Stale u.route.at)).cell
claim_by moment k s u c true e l r h =
    let old : (a : ℕ) → IsWithin a c.user → (a == s.at) ≡ false = λ a w. older u.route.at s.at a l (subst (IsWithin a) e w) in
    let x : RowFacts moment (Some u) = subst (RowFacts moment) e h.rows in
    claimed_tidy moment s (claimed_user k s u) c (record {
      claims = λ x i. old x.at (r.claims x i);
      sessions = λ x i. old x.at (r.sessions x i);
      savers = λ x i. old x.at (h.actors.savers x i).within;
    }) (record { topics = x.topics; registered = x.registered; lasting = x.lasting })
    (λ a w. later_still u.route.at s.at a l (subst (IsWithin a) e w)) h
claim_by moment k s u c false e l r h = h

claim_of_tidy : (moment k : ℕ) (s : SessionKey) (o : Option User) (c : Cell) → c.user ≡ o → CareFacts c → Tidy moment c → Tidy moment (claim_of o k s c).cell
claim_of_tidy moment k s None c e r h = h
claim_of_tidy moment k s (Some u) c e r h = claim_by moment k s u c (nat_lt u.route.at s.at) e refl r h

pub claim_tidy : (moment k : ℕ) (s : SessionKey) (c : Cell) → CareFacts c → Tidy moment c → Tidy moment (claim k s c).cell
claim_tidy moment k s c r h = claim_of_tidy moment k s c.user c refl r h

pub drop_tidy : (moment : ℕ) (c : Cell) → Tidy moment c → Tidy moment (drop_user c).cell
drop_tidy moment c h = either_tidy moment (is_some c.user) (outcome (dropped c) Dropped) (outcome c Kept) (dropped_tidy moment c) h

pub expire_tidy : (moment k : ℕ) (c : Cell) → Tidy moment c → Tidy moment (expire k c).cell
expire_tidy moment k c h =
    either_tidy moment (is_idle_user k c.user c.sessions) (outcome (dropped c) Dropped) (outcome c Kept) (dropped_tidy moment c) h

-- ---- Attach: the claim becomes a session

same_key : (n a : ℕ) (s : SessionKey) (x : Claim) → is_claim s x ≡ true → claim_key n a x ≡ claim_key n a (new_claim s)
same_key n a s x e =
    let p = same_number x.node s.node (and_left (x.node == s.node) (x.at == s.at) e) in
    let q = same_number x.at s.at (and_right (x.node == s.node) (x.at == s.at) e) in
    ap (λ y. (y == n) && (x.at == a)) p ∙ ap (λ y. (s.node == n) && (y == a)) q

joined_tidy : (moment : ℕ) (s : SessionKey) (xs : List Session) (c : Cell) → list_any (is_claim s) c.claims ≡ true →
    ((n a : ℕ) → amount (session_key n a) xs ≤ amount (session_key n a) c.sessions) → ((x : Session) → In x xs → IsBounded (held x)) → Tidy moment c →
    Tidy moment (joined s xs (record c { claims = without_first (is_claim s) c.claims }))
joined_tidy moment s xs c e k b h =
    let v = record c { claims = without_first (is_claim s) c.claims; sessions = xs ++ new_session s ∷ [] } in
    user_tidy moment v (unmarked_for s.node s.at c.user) (unmarked_for_fewer s.node s.at c.user)
    (record {
      rows = h.rows;
      actors =
          record {
            keys = λ n a.
                let d = amount-moved (claim_key n a) (claim_key n a (new_claim s)) (is_claim s) c.claims (λ x. same_key n a s x) e in
                let f = amount-snoc (session_key n a) xs (new_session s) in
                let g = k n a in
                let l = h.actors.keys n a in
                omega (arith, d, f, g, l);
            sessions = λ x i. elim (in-snoc x (new_session s) xs i) [ inl j ↦ b x j | inr q ↦ subst (λ z. IsBounded (held z)) (sym q) refl ];
            savers = h.actors.savers;
          };
    })

unclaimed_tidy : (moment : ℕ) (s : SessionKey) (c : Cell) → Tidy moment c → Tidy moment (record c { claims = without_first (is_claim s) c.claims })
unclaimed_tidy moment s c h =
    record {
      rows = h.rows;
      actors =
          record {
            keys = λ n a. let d = amount-without (claim_key n a) (is_claim s) c.claims in let l = h.actors.keys n a in omega (arith, d, l);
            sessions = h.actors.sessions;
            savers = h.actors.savers;
          };
    }

attach_beside_tidy : (moment : ℕ) (s : SessionKey) (o : Option Session) (c : Cell) → list_any (is_claim s) c.claims ≡ true →
    find (is_attached_at s.node) c.sessions ≡ o → Tidy moment c → Tidy moment (attach_beside o s (record c { claims = without_first (is_claim s) c.claims })).cell
attach_beside_tidy moment s None c e f h = joined_tidy moment s c.sessions c e (λ n a. omega arith) h.actors.sessions h
attach_beside_tidy moment s (Some x) c e f h =
    let v = record c { claims = without_first (is_claim s) c.claims } in
    let xs = with_first (is_attached_at s.node) displaced c.sessions in
    let d = session_tidy moment c (is_attached_at s.node) displaced x f (λ y. refl) (λ y. refl) (λ b. b) h in
    either_tidy moment (nat_lt s.at x.at) (outcome v (Outrun x.at)) (outcome (joined s xs v) (Attached (Some x.at)))
    (unclaimed_tidy moment s c h)
    (joined_tidy moment s xs c e (λ n a. let k = amount-with (session_key n a) (is_attached_at s.node) displaced c.sessions (λ y. refl) in omega (arith, k)) d.actors.sessions h)

attach_by : (moment : ℕ) (s : SessionKey) (c : Cell) (b : Bool) → list_any (is_claim s) c.claims ≡ b → Tidy moment c →
    Tidy moment (if b then attach_beside (find (is_attached_at s.node) c.sessions) s (record c { claims = without_first (is_claim s) c.claims }) else outcome c NotClaimed).cell
attach_by moment s c true e h = attach_beside_tidy moment s (find (is_attached_at s.node) c.sessions) c e refl h
attach_by moment s c false e h = h

pub attach_tidy : (moment : ℕ) (s : SessionKey) (c : Cell) → Tidy moment c → Tidy moment (attach s c).cell
attach_tidy moment s c h = attach_by moment s c (list_any (is_claim s) c.claims) refl h

-- ---- channels

register_beside_tidy : (moment : ℕ) (x : Option Channel) (h : ChannelId) (t : Token) (c : Cell) → Tidy moment c → Tidy moment (register_beside x h t c).cell
register_beside_tidy moment (Some x) h t c k = k
register_beside_tidy moment None h t c k = user_tidy moment c (with_channel h t c.user) (with_channel_fewer h t c.user) k

pub register_tidy : (moment : ℕ) (s : SessionKey) (h : ChannelId) (t : Token) (c : Cell) → Tidy moment c → Tidy moment (register s h t c).cell
register_tidy moment s h t c k =
    either_tidy moment (is_some (attached s c)) (register_beside (find (is_channel h) (channels_of c.user)) h t c) (outcome c NoSession)
    (register_beside_tidy moment (find (is_channel h) (channels_of c.user)) h t c k) k

forgot_tidy : (moment : ℕ) (h : ChannelId) (c : Cell) → Tidy moment c → Tidy moment (record c { sessions = map (forgot h) c.sessions })
forgot_tidy moment h c k =
    record {
      rows = k.rows;
      actors =
          sessions_actors c.user c.claims c.sessions (map (forgot h) c.sessions) c.savers
          (λ n a. let d = amount-map (session_key n a) (forgot h) c.sessions (λ y. refl) in omega (arith, d))
          (λ x i. let y = from_map (forgot h) x c.sessions i in subst (λ z. IsBounded (held z)) (sym y.2) (k.actors.sessions y.0 y.1))
          k.actors;
    }

pub unregister_tidy : (moment : ℕ) (s : SessionKey) (h : ChannelId) (c : Cell) → Tidy moment c → Tidy moment (unregister s h c).cell
unregister_tidy moment s h c k =
    either_tidy moment (is_some (attached s c)) (outcome (record c { user = without_channel h c.user; sessions = map (forgot h) c.sessions }) Done) (outcome c NoSession)
    (user_tidy moment (record c { sessions = map (forgot h) c.sessions }) (without_channel h c.user) (without_channel_fewer h c.user) (forgot_tidy moment h c k)) k

-- ---- messages

take_direct_of_tidy : (moment k : ℕ) (x : Option Session) (s : SessionKey) (c : Cell) → attached s c ≡ x → Tidy moment c → Tidy moment (take_direct_of x k s c).cell
take_direct_of_tidy moment k None s c e h = h
take_direct_of_tidy moment k (Some x) s c e h = session_tidy moment c (is_attached s) (taken k) x e (λ y. refl) (λ y. refl) (taken_bound k x) h

pub take_direct_tidy : (moment k : ℕ) (s : SessionKey) (c : Cell) → Tidy moment c → Tidy moment (take_direct k s c).cell
take_direct_tidy moment k s c h = take_direct_of_tidy moment k (attached s c) s c refl h

acked_tidy : (moment : ℕ) (x : Session) (s : SessionKey) (h : ChannelId) (i : MsgId) (c : Cell) → attached s c ≡ Some x → Tidy moment c → Tidy moment (acked s h i c)
acked_tidy moment x s h i c e k =
    user_tidy moment (with_session s (acked_in h i) c) (without_row i c.user) (without_row_fewer i c.user)
    (session_tidy moment c (is_attached s) (acked_in h i) x e (λ y. refl) (λ y. refl) (acked_bound h i x) k)

ack_of_tidy : (moment : ℕ) (x : Option Session) (s : SessionKey) (h : ChannelId) (i : MsgId) (c : Cell) → attached s c ≡ x → Tidy moment c → Tidy moment (ack_of x s h i c).cell
ack_of_tidy moment None s h i c e k = k
ack_of_tidy moment (Some x) s h i c e k =
    either_tidy moment (has_direct h i x) (outcome (acked s h i c) (Acked FromDirect)) (if was_sent h i x then outcome (acked s h i c) (Acked FromStored) else outcome c Unknown)
    (acked_tidy moment x s h i c e k)
    (either_tidy moment (was_sent h i x) (outcome (acked s h i c) (Acked FromStored)) (outcome c Unknown) (acked_tidy moment x s h i c e k) k)

pub ack_tidy : (moment : ℕ) (s : SessionKey) (h : ChannelId) (i : MsgId) (c : Cell) → Tidy moment c → Tidy moment (ack s h i c).cell
ack_tidy moment s h i c k = ack_of_tidy moment (attached s c) s h i c refl k

renew_by : (moment k : ℕ) (x : Session) (s : SessionKey) (c : Cell) (b : Bool) → attached s c ≡ Some x → is_renewable s c.user ≡ b → Tidy moment c →
    Tidy moment (if b then outcome (record (with_session s checked c) { user = renewed k s c.user }) Renewed else outcome c Kept).cell
renew_by moment k x s c true e f h =
    user_tidy moment (with_session s checked c) (renewed k s c.user) (renewed_fewer k s c.user f)
    (session_tidy moment c (is_attached s) checked x e (λ y. refl) (λ y. refl) (λ b. b) h)
renew_by moment k x s c false e f h = h

renew_of : (moment k : ℕ) (x : Option Session) (s : SessionKey) (c : Cell) → attached s c ≡ x → Tidy moment c →
    Tidy moment (if is_some x then (if is_renewable s c.user then outcome (record (with_session s checked c) { user = renewed k s c.user }) Renewed else outcome c Kept) else outcome c NoSession).cell
renew_of moment k None s c e h = h
renew_of moment k (Some x) s c e h = renew_by moment k x s c (is_renewable s c.user) e refl h

pub renew_tidy : (moment k : ℕ) (s : SessionKey) (c : Cell) → Tidy moment c → Tidy moment (renew k s c).cell
renew_tidy moment k s c h = renew_of moment k (attached s c) s c refl h

-- ---- the stored rows

take_check_of_tidy : (moment : ℕ) (x : Option Session) (s : SessionKey) (c : Cell) → attached s c ≡ x → Tidy moment c → Tidy moment (take_check_of x s c).cell
take_check_of_tidy moment None s c e h = h
take_check_of_tidy moment (Some x) s c e h =
    either_tidy moment (is_due x) (outcome (with_session s fetching c) Due) (outcome c NotDue)
    (session_tidy moment c (is_attached s) fetching x e (λ y. refl) (λ y. refl) (λ b. b) h) h

pub take_check_tidy : (moment : ℕ) (s : SessionKey) (c : Cell) → Tidy moment c → Tidy moment (take_check s c).cell
take_check_tidy moment s c h = take_check_of_tidy moment (attached s c) s c refl h

fetch_page_tidy : (moment : ℕ) (topic : Bool) (next : Fetch) (x : Session) (s : SessionKey) (c : Cell) → attached s c ≡ Some x → Tidy moment c →
    Tidy moment (fetch_page topic next x s c).cell
fetch_page_tidy moment topic next x s c e h =
    session_tidy moment c (is_attached s) (fetched topic next (rows_of c.user)) x e (λ y. refl) (λ y. refl) (λ b. b) h

fetch_topic_at_tidy : (moment : ℕ) (f : Fetch) (x : Session) (s : SessionKey) (c : Cell) → attached s c ≡ Some x → Tidy moment c → Tidy moment (fetch_topic_at f x s c).cell
fetch_topic_at_tidy moment Topic x s c e h = fetch_page_tidy moment true Plain x s c e h
fetch_topic_at_tidy moment _ x s c e h = h

fetch_topic_of_tidy : (moment : ℕ) (x : Option Session) (s : SessionKey) (c : Cell) → attached s c ≡ x → Tidy moment c → Tidy moment (fetch_topic_of x s c).cell
fetch_topic_of_tidy moment None s c e h = h
fetch_topic_of_tidy moment (Some x) s c e h = fetch_topic_at_tidy moment x.fetch x s c e h

pub fetch_topic_tidy : (moment : ℕ) (s : SessionKey) (c : Cell) → Tidy moment c → Tidy moment (fetch_topic s c).cell
fetch_topic_tidy moment s c h = fetch_topic_of_tidy moment (attached s c) s c refl h

fetch_plain_at_tidy : (moment : ℕ) (f : Fetch) (x : Session) (s : SessionKey) (c : Cell) → attached s c ≡ Some x → Tidy moment c → Tidy moment (fetch_plain_at f x s c).cell
fetch_plain_at_tidy moment Plain x s c e h = fetch_page_tidy moment false Idle x s c e h
fetch_plain_at_tidy moment _ x s c e h = h

fetch_plain_of_tidy : (moment : ℕ) (x : Option Session) (s : SessionKey) (c : Cell) → attached s c ≡ x → Tidy moment c → Tidy moment (fetch_plain_of x s c).cell
fetch_plain_of_tidy moment None s c e h = h
fetch_plain_of_tidy moment (Some x) s c e h = fetch_plain_at_tidy moment x.fetch x s c e h

pub fetch_plain_tidy : (moment : ℕ) (s : SessionKey) (c : Cell) → Tidy moment c → Tidy moment (fetch_plain s c).cell
fetch_plain_tidy moment s c h = fetch_plain_of_tidy moment (attached s c) s c refl h
