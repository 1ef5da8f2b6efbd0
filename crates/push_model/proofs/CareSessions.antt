-- Steps of a session lose no nudge: TakeCheck, FetchTopic, FetchPlain, TakeDirect, Ack and Unregister.
use Rattle.std.proofs.Common.{◌≡◌, ℕ, zero, suc, ◌<◌, Bool, true, false, not, inl, inr, List, [], ◌∷◌, ◌++◌, drop, length, refl, ◌∙◌, ap, sym, subst, arith}
use Rattle.std.specs.Prelude.{map, find, Option, Some, None, is_some, ◌||◌, if◌then◌else◌}
use Rattle.std.proofs.lemmas.Bool.Decides.{nat_tests}
use Rattle.push_model.specs.declared.ids.Uaid.{Uaid}
use Rattle.push_model.specs.declared.ids.ChannelId.{ChannelId}
use Rattle.push_model.specs.declared.ids.MsgId.{MsgId}
use Rattle.push_model.specs.declared.parts.FlightRow.{FlightRow}
use Rattle.push_model.specs.declared.parts.Row.{Row}
use Rattle.push_model.specs.declared.step.Fetch.{Fetch}
use Rattle.push_model.specs.declared.step.Fetch.TheVariants.{Idle, Topic, Plain}
use Rattle.push_model.specs.declared.reply.AckedFrom.TheVariants.{Direct as FromDirect, Stored as FromStored}
use Rattle.push_model.specs.declared.reply.Reply.TheVariants.{Acked, Unknown, Due, NotDue, Done, NoSession}
use Rattle.push_model.specs.Names.{is_same_channel, is_same_id}
use Rattle.push_model.specs.SessionKey.{SessionKey}
use Rattle.push_model.specs.MessageValue.{MessageValue}
use Rattle.push_model.specs.Keyed.{with_first, without_first}
use Rattle.push_model.specs.Rows.{has_sent, is_unsent, is_row, has_topic, is_kind, is_next, row_page}
use Rattle.push_model.specs.Sessions.{Session, is_attached, is_attached_at, is_sent, has_direct, was_sent, taken, acked_in, is_due, fetching, sent_pair, fetched, forgot, sent_more}
use Rattle.push_model.specs.Cells.{Cell, User, Saver, rows_of}
use Rattle.push_model.specs.Outcomes.{outcome}
use Rattle.push_model.specs.SessionSteps.{attached, with_session, take_direct, take_direct_of, ack, ack_of, acked, without_row, is_other_row, without_channel, unregister}
use Rattle.push_model.specs.FetchSteps.{take_check, take_check_of, fetch_page, fetch_topic, fetch_topic_of, fetch_topic_at, fetch_plain, fetch_plain_of, fetch_plain_at}
use Rattle.push_model.specs.Covering.{is_routed, fetch_covers}
use Rattle.push_model.specs.Pools.{Taken, Pool, taken_at, IsAt}
use Rattle.push_model.proofs.Members.{In, true_not_false, find_passes, among, list_any-in, in-append_left, in-filter, in_filter, filter_passes, in-map, from_map, in-without_first, without_first-keeps}
use Rattle.push_model.proofs.Marks.{both}
use Rattle.push_model.proofs.Growth.{IsSentAs}
use Rattle.push_model.proofs.CellFacts.{number, CellFacts}
use Rattle.push_model.proofs.Single.{Single, single-without_first, single-filter, single-map, single_gone}
use Rattle.push_model.proofs.Care.{Minded, BySent, ByCheck, ByFetch, follow, Stays, IsWithin, CareFacts, fewer_care, sessions_care, session_care}

-- ---- TakeCheck: the fetch covers all

fetching_stays : Stays fetching
fetching_stays = record { node = λ x. refl; at = λ x. refl; displaced = λ x. refl }

check_by : (s : SessionKey) (c : Cell) (x : Session) (b : Bool) → CareFacts c → attached s c ≡ Some x →
    CareFacts (if b then outcome (with_session s fetching c) Due else outcome c NotDue).cell
check_by s c x false h e = h
check_by s c x true h e =
    session_care c (is_attached s) fetching x h e fetching_stays
    (λ r i. record { node = refl; at = refl; sent = λ k. BySent k; check = λ k. ByFetch refl; fetch = λ k. ByFetch refl })

take_check_of_care : (s : SessionKey) (c : Cell) (o : Option Session) → CareFacts c → attached s c ≡ o → CareFacts (take_check_of o s c).cell
take_check_of_care s c None h e = h
take_check_of_care s c (Some x) h e = check_by s c x (is_due x) h e

pub take_check_care : (s : SessionKey) (c : Cell) → CareFacts c → CareFacts (take_check s c).cell
take_check_care s c h = take_check_of_care s c (attached s c) h refl

-- ---- FetchTopic and FetchPlain: what isn't on the page has the check mark

pub same_id : (i : MsgId) → is_same_id i i ≡ true
same_id i = grind (arith, nat_tests)

long : {A : Type 0} (y : A) (n : ℕ) (xs : List A) → In y (drop n xs) → n < length xs
long y zero [] i = elim i [ ]
long y zero (x ∷ xs) i = omega arith
long y (suc n) [] i = elim i [ ]
long y (suc n) (x ∷ xs) i = let l = long y n xs i in omega arith

map_length : {A B : Type 0} (f : A → B) (xs : List A) → length (map f xs) ≡ length xs
map_length f [] = refl
map_length f (x ∷ xs) = ap suc (map_length f xs)

pub or_left : (a b : Bool) → a ≡ true → (a || b) ≡ true
or_left true b e = refl
or_left false b e = cc

pub or_right : (a b : Bool) → b ≡ true → (a || b) ≡ true
or_right true b e = refl
or_right false b e = e

sent_longer : (i : MsgId) (xs ys : List (ChannelId × MsgId)) → has_sent i xs ≡ true → has_sent i (xs ++ ys) ≡ true
sent_longer i xs ys h =
    let a = among (λ y. is_same_id y.1 i) xs h in
    list_any-in (λ y. is_same_id y.1 i) a.one (xs ++ ys) (in-append_left a.one xs ys a.member) a.passes

-- a row of the kind was sent, or is sent now, or remains, and then the check mark is set
kind_minded : (fs : List FlightRow) (vs : List Saver) (topic : Bool) (next : Fetch) (rows : List Row) (x : Session) (r : Row) (b : Bool) → In r rows →
    is_kind topic r ≡ true → has_sent r.message.id (sent_more topic rows x) ≡ b → Minded fs vs (fetched topic next rows x) r
kind_minded fs vs topic next rows x r true i k e = BySent e
kind_minded fs vs topic next rows x r false i k e =
    let sent = sent_more topic rows x in
    ByCheck (or_right x.check _ (list_any-in (is_next topic sent) r rows i (both (is_kind topic r) (is_unsent sent r) k (ap not e))))

topic_kind : (fs : List FlightRow) (vs : List Saver) (rows : List Row) (x : Session) (r : Row) (b : Bool) → In r rows → has_topic r ≡ b →
    Minded fs vs (fetched true Plain rows x) r
topic_kind fs vs rows x r true i e = kind_minded fs vs true Plain rows x r (has_sent r.message.id (sent_more true rows x)) i e refl
topic_kind fs vs rows x r false i e = ByFetch (ap not e)

fetched_stays : (topic : Bool) (next : Fetch) (rows : List Row) → Stays (fetched topic next rows)
fetched_stays topic next rows = record { node = λ x. refl; at = λ x. refl; displaced = λ x. refl }

-- where what the fetch covered is minded
fetch_care : (topic : Bool) (next : Fetch) (s : SessionKey) (c : Cell) (x : Session) → CareFacts c → attached s c ≡ Some x →
    ((r : Row) → In r (rows_of c.user) → fetch_covers x.fetch r ≡ true → Minded c.flights c.savers (fetched topic next (rows_of c.user) x) r) →
    CareFacts (fetch_page topic next x s c).cell
fetch_care topic next s c x h e g =
    let rows = rows_of c.user in
    session_care c (is_attached s) (fetched topic next rows) x h e (fetched_stays topic next rows)
    (λ r i. record {
      node = refl;
      at = refl;
      sent = λ k. BySent (sent_longer r.message.id x.sent (map sent_pair (row_page topic x.sent rows)) k);
      check = λ k. ByCheck (or_left x.check _ k);
      fetch = g r i;
    })

topic_at_care : (s : SessionKey) (c : Cell) (x : Session) (fetch : Fetch) → CareFacts c → attached s c ≡ Some x → CareFacts (fetch_topic_at fetch x s c).cell
topic_at_care s c x Topic h e =
    fetch_care true Plain s c x h e (λ r i k. topic_kind c.flights c.savers (rows_of c.user) x r (has_topic r) i refl)
topic_at_care s c x _ h e = h

topic_of_care : (s : SessionKey) (c : Cell) (o : Option Session) → CareFacts c → attached s c ≡ o → CareFacts (fetch_topic_of o s c).cell
topic_of_care s c None h e = h
topic_of_care s c (Some x) h e = topic_at_care s c x x.fetch h e

pub fetch_topic_care : (s : SessionKey) (c : Cell) → CareFacts c → CareFacts (fetch_topic s c).cell
fetch_topic_care s c h = topic_of_care s c (attached s c) h refl

plain_at_care : (s : SessionKey) (c : Cell) (x : Session) (fetch : Fetch) → CareFacts c → attached s c ≡ Some x → x.fetch ≡ fetch →
    CareFacts (fetch_plain_at fetch x s c).cell
plain_at_care s c x Plain h e f =
    fetch_care false Idle s c x h e
    (λ r i k. kind_minded c.flights c.savers false Idle (rows_of c.user) x r (has_sent r.message.id (sent_more false (rows_of c.user) x)) i (ap (λ y. fetch_covers y r) (sym f) ∙ k) refl)
plain_at_care s c x _ h e f = h

plain_of_care : (s : SessionKey) (c : Cell) (o : Option Session) → CareFacts c → attached s c ≡ o → CareFacts (fetch_plain_of o s c).cell
plain_of_care s c None h e = h
plain_of_care s c (Some x) h e = plain_at_care s c x x.fetch h e refl

pub fetch_plain_care : (s : SessionKey) (c : Cell) → CareFacts c → CareFacts (fetch_plain s c).cell
fetch_plain_care s c h = plain_of_care s c (attached s c) h refl

-- ---- TakeDirect

-- a change that only moves messages
pub idle_care : (c : Cell) (t : Session → Bool) (g : Session → Session) (x : Session) → CareFacts c → find t c.sessions ≡ Some x → Stays g →
    (g x).sent ≡ x.sent → (g x).check ≡ x.check → (g x).fetch ≡ x.fetch → CareFacts (record c { sessions = with_first t g c.sessions })
idle_care c t g x h e s a b d =
    session_care c t g x h e s
    (λ r i. record {
      node = s.node x;
      at = s.at x;
      sent = λ k. BySent (ap (has_sent r.message.id) a ∙ k);
      check = λ k. ByCheck (b ∙ k);
      fetch = λ k. ByFetch (ap (λ y. fetch_covers y r) d ∙ k);
    })

take_of_care : (moment : ℕ) (s : SessionKey) (c : Cell) (o : Option Session) → CareFacts c → attached s c ≡ o → CareFacts (take_direct_of o moment s c).cell
take_of_care moment s c None h e = h
take_of_care moment s c (Some x) h e =
    idle_care c (is_attached s) (taken moment) x h e (record { node = λ y. refl; at = λ y. refl; displaced = λ y. refl }) refl refl refl

pub take_direct_care : (moment : ℕ) (s : SessionKey) (c : Cell) → CareFacts c → CareFacts (take_direct moment s c).cell
take_direct_care moment s c h = take_of_care moment s c (attached s c) h refl

-- ---- Ack: the row goes first, and no other row has its id

row_of_none : (i : MsgId) (o : Option User) (x : Session) → is_routed (without_row i o) x ≡ is_routed o x
row_of_none i None x = refl
row_of_none i (Some u) x = refl

row_within : (i : MsgId) (a : ℕ) (o : Option User) → IsWithin a o → IsWithin a (without_row i o)
row_within i a None w = w
row_within i a (Some u) w = w

row_single : (i k : MsgId) (o : Option User) → Single (is_row k) (rows_of o) → Single (is_row k) (rows_of (without_row i o))
row_single i k None d = d
row_single i k (Some u) d = single-without_first (is_row k) (is_row i) u.rows d

row_back : (i : MsgId) (o : Option User) (r : Row) → In r (rows_of (without_row i o)) → In r (rows_of o)
row_back i None r j = j
row_back i (Some u) r j = in-without_first (is_row i) r u.rows j

row_gone : (i : MsgId) (o : Option User) (r : Row) → Single (is_row i) (rows_of o) → In r (rows_of (without_row i o)) → is_row i r ≡ false
row_gone i None r d j = elim j [ ]
row_gone i (Some u) r d j = single_gone (is_row i) u.rows d r j

-- the pair of another id stays
pair_id : (k : ChannelId) (i : MsgId) (r : Row) (y : ChannelId × MsgId) → is_same_id y.1 r.message.id ≡ true → is_sent k i y ≡ true → is_row i r ≡ true
pair_id k i r y e s = grind (arith, nat_tests)

other_sent : (k : ChannelId) (i : MsgId) (r : Row) (sent : List (ChannelId × MsgId)) → is_row i r ≡ false → has_sent r.message.id sent ≡ true →
    has_sent r.message.id (without_first (is_sent k i) sent) ≡ true
other_sent k i r sent f h =
    let a = among (λ y. is_same_id y.1 r.message.id) sent h in
    elim (without_first-keeps (is_sent k i) a.one sent a.member) [
      | inl j ↦ list_any-in (λ y. is_same_id y.1 r.message.id) a.one (without_first (is_sent k i) sent) j a.passes
      | inr e ↦ absurd (true_not_false (sym (pair_id k i r a.one a.passes (find_passes (is_sent k i) a.one sent e)) ∙ f))
    ]

acked_care : (s : SessionKey) (k : ChannelId) (i : MsgId) (c : Cell) (x : Session) → CareFacts c → attached s c ≡ Some x → CareFacts (acked s k i c)
acked_care s k i c x h e =
    let v = record c { user = without_row i c.user } in
    session_care v (is_attached s) (acked_in k i) x
    (fewer_care c (without_row i c.user) h (λ j. row_single i j c.user (h.rows j)) (λ a. row_within i a c.user) (row_of_none i c.user) (row_back i c.user))
    e (record { node = λ y. refl; at = λ y. refl; displaced = λ y. refl })
    (λ r j. record {
      node = refl;
      at = refl;
      sent = λ q. BySent (other_sent k i r x.sent (row_gone i c.user r (h.rows i) j) q);
      check = λ q. ByCheck q;
      fetch = λ q. ByFetch q;
    })

ack_by : (s : SessionKey) (k : ChannelId) (i : MsgId) (c : Cell) (x : Session) (a b : Bool) → CareFacts c → attached s c ≡ Some x →
    CareFacts (if a then outcome (acked s k i c) (Acked FromDirect) else if b then outcome (acked s k i c) (Acked FromStored) else outcome c Unknown).cell
ack_by s k i c x true b h e = acked_care s k i c x h e
ack_by s k i c x false true h e = acked_care s k i c x h e
ack_by s k i c x false false h e = h

ack_of_care : (s : SessionKey) (k : ChannelId) (i : MsgId) (c : Cell) (o : Option Session) → CareFacts c → attached s c ≡ o → CareFacts (ack_of o s k i c).cell
ack_of_care s k i c None h e = h
ack_of_care s k i c (Some x) h e = ack_by s k i c x (has_direct k i x) (was_sent k i x) h e

pub ack_care : (s : SessionKey) (k : ChannelId) (i : MsgId) (c : Cell) → CareFacts c → CareFacts (ack s k i c).cell
ack_care s k i c h = ack_of_care s k i c (attached s c) h refl

-- ---- Unregister: a pair of a row that stays has the row's channel

sent_channel : (u : Uaid) (k : ChannelId) (m : MessageValue) (o : Option Taken) → IsAt o (λ t. (t.left ≡ None) × (t.message ≡ m)) → IsAt o (IsSentAs u k) → m.chid ≡ k
sent_channel u k m None a b = absurd a
sent_channel u k m (Some t) a b = ap (λ y. y.chid) (sym a.1) ∙ b.chid

same_number : (a b : MsgId) → is_same_id a b ≡ true → a.number ≡ b.number
same_number a b e = grind (arith, nat_tests)

pair_channel : (p : Pool) (c : Cell) (x : Session) (r : Row) (y : ChannelId × MsgId) → CellFacts p c → In x c.sessions → In r (rows_of c.user) → In y x.sent →
    is_same_id y.1 r.message.id ≡ true → r.message.chid ≡ y.0
pair_channel p c x r y f i j l e =
    let own = f.user.own r.message (in-map (λ z. z.message) r (rows_of c.user) j) in
    sent_channel c.uaid y.0 r.message (taken_at (number r.message) p) own.known
    (subst (λ n. IsAt (taken_at n p) (IsSentAs c.uaid y.0)) (same_number y.1 r.message.id e) ((f.sessions x i).sent y l))

forgot_sent : (p : Pool) (h : ChannelId) (c : Cell) (x : Session) (r : Row) → CellFacts p c → In x c.sessions → In r (rows_of c.user) →
    is_other_row h r ≡ true → has_sent r.message.id x.sent ≡ true → has_sent r.message.id (forgot h x).sent ≡ true
forgot_sent p h c x r f i j o s =
    let a = among (λ y. is_same_id y.1 r.message.id) x.sent s in
    let same = pair_channel p c x r a.one f i j a.member a.passes in
    let stays : not (is_same_channel a.one.0 h) ≡ true = ap (λ k. not (is_same_channel k h)) (sym same) ∙ o in
    list_any-in (λ y. is_same_id y.1 r.message.id) a.one (forgot h x).sent (in_filter (λ y. not (is_same_channel y.0 h)) a.one x.sent a.member stays) a.passes

channel_routed : (h : ChannelId) (o : Option User) (x : Session) → is_routed (without_channel h o) x ≡ is_routed o x
channel_routed h None x = refl
channel_routed h (Some u) x = refl

channel_within : (h : ChannelId) (a : ℕ) (o : Option User) → IsWithin a o → IsWithin a (without_channel h o)
channel_within h a None w = w
channel_within h a (Some u) w = w

channel_single : (h : ChannelId) (i : MsgId) (o : Option User) → Single (is_row i) (rows_of o) → Single (is_row i) (rows_of (without_channel h o))
channel_single h i None d = d
channel_single h i (Some u) d = single-filter (is_row i) (is_other_row h) u.rows d

channel_back : (h : ChannelId) (o : Option User) (r : Row) → In r (rows_of (without_channel h o)) → In r (rows_of o)
channel_back h None r j = j
channel_back h (Some u) r j = in-filter (is_other_row h) r u.rows j

channel_other : (h : ChannelId) (o : Option User) (r : Row) → In r (rows_of (without_channel h o)) → is_other_row h r ≡ true
channel_other h None r j = elim j [ ]
channel_other h (Some u) r j = filter_passes (is_other_row h) r u.rows j

unregistered_care : (p : Pool) (h : ChannelId) (c : Cell) → CellFacts p c → CareFacts c →
    CareFacts (record c { user = without_channel h c.user; sessions = map (forgot h) c.sessions })
unregistered_care p h c f g =
    let o = without_channel h c.user in
    let v = record c { user = o } in
    let one = fewer_care c o g (λ i. channel_single h i c.user (g.rows i)) (λ a. channel_within h a c.user) (channel_routed h c.user) (channel_back h c.user) in
    sessions_care v (map (forgot h) c.sessions) one (λ n. single-map (is_attached_at n) (forgot h) c.sessions (λ x e. e) (g.alone n))
    (λ x i. let a = from_map (forgot h) x c.sessions i in subst (λ z. IsWithin z.at o) (sym a.2) (one.sessions a.0 a.1))
    (λ x i d r j.
    let a = from_map (forgot h) x c.sessions i in
    let routed : is_routed o a.0 ≡ true = ap (is_routed o) (sym a.2) ∙ d in
    subst (λ z. Minded c.flights c.savers z r) (sym a.2) (follow c.flights c.savers a.0 (forgot h a.0) r (record {
      node = refl;
      at = refl;
      sent = λ k. BySent (forgot_sent p h c a.0 r f a.1 (channel_back h c.user r j) (channel_other h c.user r j) k);
      check = λ k. ByCheck k;
      fetch = λ k. ByFetch k;
    }) (one.minded a.0 a.1 routed r j)))

unregister_by : (p : Pool) (h : ChannelId) (c : Cell) (b : Bool) → CellFacts p c → CareFacts c →
    CareFacts (if b then outcome (record c { user = without_channel h c.user; sessions = map (forgot h) c.sessions }) Done else outcome c NoSession).cell
unregister_by p h c true f g = unregistered_care p h c f g
unregister_by p h c false f g = g

pub unregister_care : (p : Pool) (s : SessionKey) (h : ChannelId) (c : Cell) → CellFacts p c → CareFacts c → CareFacts (unregister s h c).cell
unregister_care p s h c f g = unregister_by p h c (is_some (attached s c)) f g
