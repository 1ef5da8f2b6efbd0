-- Worked values and plain words, by which a reader tries the definitions.
use Rattle.std.specs.Prelude.{◌≡◌, ◌≢◌, ℕ, zero, suc, ◌<◌, ◌-◌, ◌^◌, ◌⊎◌, Bool, true, false, List, [], ◌∷◌, Option, Some, None, is_some, length, map, take, drop, ◌++◌, ◌+◌, ◌==◌, ◌&&◌, ◌||◌}
use Rattle.std.specs.List.{list_any}
use Rattle.push_model.specs.declared.ids.Uaid.{Uaid}
use Rattle.push_model.specs.declared.ids.ChannelId.{ChannelId}
use Rattle.push_model.specs.declared.ids.MsgId.{MsgId}
use Rattle.push_model.specs.declared.ids.Op.{Op}
use Rattle.push_model.specs.declared.ask.Urgency.TheVariants.{Normal}
use Rattle.push_model.specs.declared.ask.Coding.TheVariants.{Aes128gcm}
use Rattle.push_model.specs.declared.counts.Counts.{Counts}
use Rattle.push_model.specs.declared.counts.Tally.{Tally}
use Rattle.push_model.specs.declared.parts.Row.{Row}
use Rattle.push_model.specs.declared.parts.FlightRow.{FlightRow}
use Rattle.push_model.specs.declared.step.Fetch.{Fetch}
use Rattle.push_model.specs.declared.step.Fetch.TheVariants.{Idle}
use Rattle.push_model.specs.declared.step.Stage.{Stage}
use Rattle.push_model.specs.declared.step.Stage.TheVariants.{Reread, Saving}
use Rattle.push_model.specs.declared.step.Step.{Step}
use Rattle.push_model.specs.declared.step.Step.TheVariants.{Create, Attach, Begin, Register, Direct, Store, Heard, Lost, Reread as RereadStep, Nudge, TakeCheck, FetchTopic, FetchPlain, TakeDirect, Ack as AckStep, Tick as TickStep, Claim, Unregister, Renew, Close, Release, SaveOne, Clear, Notif, Kill, Up, Expire, DropUser, ListOrphans, ListIdle}
use Rattle.push_model.specs.declared.step.Actor.TheVariants.{Flight as OfFlight, Saver as OfSaver}
use Rattle.push_model.specs.declared.reply.Reply.{Reply}
use Rattle.push_model.specs.declared.reply.Reply.TheVariants.{Begun, End, Stored as IsStored, Page, Acked, Endpoint, Saved, Dropped}
use Rattle.push_model.specs.declared.entry.Entry.{Entry}
use Rattle.push_model.specs.declared.ids.Token.{Token}
use Rattle.push_model.specs.SessionKey.{SessionKey}
use Rattle.push_model.specs.AskValue.{AskValue}
use Rattle.push_model.specs.MessageValue.{MessageValue}
use Rattle.push_model.specs.Sessions.{Session}
use Rattle.push_model.specs.Cells.{Cell, Saver, User, empty_cell}
use Rattle.push_model.specs.Kinds.{begins_unkept}
use Rattle.push_model.specs.Replies.{is_done}
use Rattle.push_model.specs.Worlds.{World, start}
use Rattle.push_model.specs.Steps.{is_of_flight, step}
use Rattle.push_model.specs.Histories.{history}
use Rattle.push_model.specs.Pools.{Pool, PoolStep, Taken, Take, Keep, Show, Ack as AckOf, Answer, Strike, Subscribe, Unsubscribe, Drop, Tick, Leave, taken_at, after_all, empty_pool}
use Rattle.push_model.specs.Images.{image}

-- ---- what a message of a pool is

-- x is kept, and has a greater number than m, and the same user, channel and topic
pub record IsReplacedBy (m : MessageValue) (x : Taken) : Type 0 where
  pub kept : x.kept ≡ true
  pub newer : m.id.number < x.message.id.number
  pub user : x.message.uaid ≡ m.uaid
  pub channel : x.message.chid ≡ m.chid
  pub topic : List ℕ
  pub has : m.ask.terms.topic ≡ Some topic
  pub same : x.message.ask.terms.topic ≡ Some topic

-- the pool q is p, but that the message of the number n is now v
pub record ChangesOnly (n : ℕ) (v : Taken) (p q : Pool) : Type 0 where
  pub clock : q.clock ≡ p.clock
  pub subscribed : q.subscribed ≡ p.subscribed
  pub here : taken_at n q ≡ Some v
  pub others : (k : ℕ) → k ≢ n → taken_at k q ≡ taken_at k p

-- just taken
abbrev pub untouched : MessageValue → Taken
untouched m =
    record { message = m; kept = false; shown = false; acked = false; struck = false; answer = None; unsubscribed = false; dropped = false; left = None }

-- ---- worked messages: all of the user 1 and its channel 2, accepted at 100

abbrev pub user_one : Uaid
user_one = record { 0 = 1 }

abbrev pub channel_two : ChannelId
channel_two = record { 0 = 2 }

abbrev pub id_of : ℕ → MsgId
id_of n = record { shard = 0; number = n }

abbrev pub ask_for : ℕ → Option (List ℕ) → AskValue
ask_for ttl topic =
    record { terms = record { ttl = ttl; topic = topic; urgency = Normal; coding = Aes128gcm }; encryption = []; crypto_key = []; payload = 7 ∷ [] }

abbrev pub message_of : ℕ → ℕ → Option (List ℕ) → MessageValue
message_of n ttl topic = record { id = id_of n; uaid = user_one; chid = channel_two; ask = ask_for ttl topic; accepted = 100 }

-- without topic
abbrev pub plain : ℕ → MessageValue
plain n = message_of n 50 None

-- with the topic a
abbrev pub topical : ℕ → MessageValue
topical n = message_of n 50 (Some (97 ∷ []))

abbrev pub row_of : MessageValue → Row
row_of m = record { message = m; orphan = false }

-- rows of so many such messages, whose numbers go down to 1
abbrev pub rows_down : (ℕ → MessageValue) → ℕ → List Row
rows_down f zero = []
rows_down f (suc n) = row_of (f (suc n)) ∷ rows_down f n

abbrev pub sent_of : ℕ → ChannelId × MsgId
sent_of n = (channel_two, id_of n)

-- ---- a worked cell: the session at node 3 of the moment 4, and one row, of the message 5

abbrev pub session_with : Bool → Fetch → Session
session_with check fetch =
    record { node = 3; at = 4; displaced = false; inbox = []; direct = []; sent = []; check = check; fetch = fetch }

abbrev pub routed_to : Option ℕ → List Row → User
routed_to node rows = record { route = record { node = node; at = 4; touched = 0 }; channels = []; rows = rows }

abbrev pub cell_of : Option ℕ → Row → Session → List FlightRow → List Saver → Cell
cell_of node r x flights savers =
    record { uaid = user_one; user = Some (routed_to node (r ∷ [])); claims = []; sessions = x ∷ []; savers = savers; flights = flights }

-- the route row names the session, and the row has no topic
abbrev pub worked : Bool → Fetch → List FlightRow → List Saver → Bool → Cell
worked check fetch flights savers orphan =
    cell_of (Some 3) (record { message = plain 5; orphan = orphan }) (session_with check fetch) flights savers

-- the row has a topic
abbrev pub worked_topical : Fetch → Cell
worked_topical fetch = cell_of (Some 3) (row_of (topical 5)) (session_with false fetch) [] []

abbrev pub op_one : Op
op_one = record { pass = 1; k = 1 }

-- one flight of that message
abbrev pub flies : ℕ → Stage → List FlightRow
flies n stage = record { op = op_one; message = plain n; token = record { 0 = [] }; stage = stage } ∷ []

-- one saver, of another session, that saved that message
abbrev pub saves : ℕ → Stage → List Saver
saves n stage = record { node = 8; at = 3; held = []; saved = id_of n ∷ []; stage = stage } ∷ []

-- the row without topic, no cover, and that session; the route row has that node, and the moment 4
abbrev pub beside_session : Option ℕ → Session → Cell
beside_session node x = cell_of node (row_of (plain 5)) x [] []

-- the messages 1 to 5: a row, shown to the session, in its inbox, held by a saver, and on its way
abbrev pub five_places : Cell
five_places =
    record {
      uaid = user_one;
      user = Some (routed_to (Some 3) (row_of (plain 1) ∷ []));
      claims = [];
      sessions = record (session_with false Idle) { direct = plain 2 ∷ []; inbox = plain 3 ∷ [] } ∷ [];
      savers = record { node = 8; at = 3; held = plain 4 ∷ []; saved = []; stage = Saving } ∷ [];
      flights = flies 5 Reread;
    }

abbrev pub world_of : Cell → World
world_of c = record (start 0 1) { cells = (1, c) ∷ [] }

-- a session that was shown so many messages, and has so many in its inbox
abbrev pub holds : ℕ → ℕ → Session
holds shown waits =
    record (session_with false Idle) { direct = map (λ r. r.message) (rows_down plain shown); inbox = map (λ r. r.message) (rows_down plain waits) }

-- ---- a worked tally: each count is another; and one in which each is at its greatest

abbrev pub some_tally : Tally
some_tally = record { begun = 10; ok = 20; refused = 30; stored = 40; shown = 50; acked = 60; saved = 70; left = 80; lost = 90 }

abbrev pub greatest : ℕ
greatest = 2 ^ 64 - 1

abbrev pub full_tally : Tally
full_tally =
    record { begun = greatest; ok = greatest; refused = greatest; stored = greatest; shown = greatest; acked = greatest; saved = greatest; left = greatest; lost = greatest }

-- ---- a worked pool: at that moment, with a message and, after it, a newer one of its channel and topic

-- what was done to the message 5: it was acknowledged or not, unsubscribed or not, dropped or not, answered or not, and struck or not
abbrev pub touched : ℕ → Bool → Bool → Bool → Option ℕ → Bool → Taken
touched ttl acked unsubscribed dropped answer struck =
    record {
      message = message_of 5 ttl (Some (97 ∷ []));
      kept = false;
      shown = false;
      acked = acked;
      struck = struck;
      answer = answer;
      unsubscribed = unsubscribed;
      dropped = dropped;
      left = None;
    }

-- the newer one is the message 9, and is kept or not
abbrev pub newer : Bool → Taken
newer kept = record (untouched (topical 9)) { kept = kept }

abbrev pub pool_at : ℕ → Taken → Bool → Pool
pool_at moment t kept = record { clock = moment; subscribed = []; taken = t ∷ newer kept ∷ [] }

-- ---- cells of a world

abbrev pub HasUserOrFlight : Cell → Type 0
HasUserOrFlight c = (is_some c.user ≡ true) ⊎ (0 < length c.flights)

-- ---- what an entry may do to the pool

abbrev pub is_begin : Step → Bool
is_begin (Begin o t a) = true
is_begin _ = false

abbrev pub is_begun : Reply → Bool
is_begun (Begun i place) = true
is_begun _ = false

abbrev pub is_store : Step → Bool
is_store (Store o) = true
is_store _ = false

abbrev pub is_stored : Reply → Bool
is_stored IsStored = true
is_stored _ = false

-- a page with that message
abbrev pub shows : Reply → MessageValue → Bool
shows (Page ms) m = list_any (λ k. k.id.number == m.id.number) ms
shows _ m = false

-- the acknowledgement of that number
abbrev pub acknowledges : Step → ℕ → Bool
acknowledges (AckStep s h i) n = i.number == n
acknowledges _ n = false

abbrev pub is_acked : Reply → Bool
is_acked (Acked from) = true
is_acked _ = false

-- a flight's step ends it by that code; or a message with ttl 0 begins without a route, and the code is 201
abbrev pub ends : Step → Reply → ℕ → Bool
ends x (End code) k = is_of_flight x && (k == code)
ends x (Begun i None) k = begins_unkept x && (k == 201)
ends x (Begun i (Some place)) k = false
ends x _ k = false

-- that user's session registers that channel
abbrev pub registers : Step → Uaid → ChannelId → Bool
registers (Register s k t) u h = (s.uaid.0 == u.0) && (k.0 == h.0)
registers _ u h = false

abbrev pub is_endpoint : Reply → Bool
is_endpoint (Endpoint t) = true
is_endpoint _ = false

abbrev pub is_save : Step → Bool
is_save (SaveOne s) = true
is_save _ = false

-- the message of that number was saved
abbrev pub saved_it : Reply → ℕ → Bool
saved_it (Saved i) n = i.number == n
saved_it _ n = false

-- that user's session unregisters that channel
abbrev pub unregisters : Step → Uaid → ChannelId → Bool
unregisters (Unregister s k) u h = (s.uaid.0 == u.0) && (k.0 == h.0)
unregisters _ u h = false

-- that user is dropped, or expires
abbrev pub drops_user : Step → Uaid → Bool
drops_user (DropUser k) u = k.0 == u.0
drops_user (Expire k) u = k.0 == u.0
drops_user _ u = false

abbrev pub is_dropped : Reply → Bool
is_dropped Dropped = true
is_dropped _ = false

abbrev pub is_kill : Step → Bool
is_kill (Kill n) = true
is_kill _ = false

abbrev pub ticks_to : Step → ℕ → Bool
ticks_to (TickStep k) t = k == t
ticks_to _ t = false

-- a session takes messages, or fetches rows
abbrev pub is_look : Step → Bool
is_look (TakeDirect s) = true
is_look (FetchTopic s) = true
is_look (FetchPlain s) = true
is_look _ = false

-- it is a Strike of that number
abbrev pub is_strike_of : ℕ → PoolStep → Bool
is_strike_of k (Strike n) = n == k
is_strike_of k _ = false

abbrev pub may_cause : Step → Reply → PoolStep → Bool
may_cause x r (Take m) = is_begin x && is_begun r
may_cause x r (Keep n) = (is_store x && is_stored r) || (is_save x && saved_it r n)
may_cause x r (Show m) = is_look x && shows r m
may_cause x r (AckOf n) = acknowledges x n && is_acked r
may_cause x r (Answer n code) = ends x r code
may_cause x r (Subscribe u h) = registers x u h && is_endpoint r
may_cause x r (Leave n why) = true
may_cause x r (Strike n) = is_kill x
may_cause x r (Unsubscribe u h) = unregisters x u h && is_done r
may_cause x r (Drop u) = drops_user x u && is_dropped r
may_cause x r (Tick t) = ticks_to x t

-- a report that counts one row that waits, or none
abbrev pub counts_with : ℕ → Counts
counts_with n = record { users = 1; stored = 1; held = 0; flights = 0; unsent = 1; orphans = 0; waiting = n }

-- ---- worked histories of one message

abbrev pub key_one : SessionKey
key_one = record { uaid = user_one; node = 3; at = 4 }

abbrev pub token_one : Token
token_one = record { 0 = 1 ∷ 2 ∷ 3 ∷ [] }

abbrev pub token_two : Token
token_two = record { 0 = 1 ∷ 2 ∷ 4 ∷ [] }

abbrev pub channel_three : ChannelId
channel_three = record { 0 = 3 }

-- of a message
abbrev pub greatest_number : ℕ
greatest_number = 2 ^ 63 - 1

-- the message that it takes
abbrev pub begun_message : MessageValue
begun_message = record { id = id_of 1; uaid = user_one; chid = channel_two; ask = ask_for 50 None; accepted = 0 }

-- it is given to the session
abbrev pub one_given : List Step
one_given =
    Create key_one ∷ Attach key_one ∷ Register key_one channel_two token_one ∷ Begin op_one token_one (ask_for 50 None) ∷ Direct op_one ∷ Heard (OfFlight op_one) ∷
    TakeDirect key_one ∷ AckStep key_one channel_two (id_of 1) ∷ []

-- the session looks at the rows; later the link to it is lost, and the message stored
abbrev pub one_stored : List Step
one_stored =
    Create key_one ∷ Attach key_one ∷ TakeCheck key_one ∷ FetchTopic key_one ∷ FetchPlain key_one ∷ Register key_one channel_two token_one ∷
    Begin op_one token_one (ask_for 50 None) ∷ Lost (OfFlight op_one) ∷ Store op_one ∷ RereadStep (OfFlight op_one) ∷ Nudge (OfFlight op_one) ∷ Heard (OfFlight op_one) ∷
    TakeCheck key_one ∷ FetchTopic key_one ∷ FetchPlain key_one ∷ AckStep key_one channel_two (id_of 1) ∷ []

-- the session holds it
abbrev pub one_held : List Step
one_held =
    Create key_one ∷ Attach key_one ∷ Register key_one channel_two token_one ∷ Begin op_one token_one (ask_for 50 None) ∷ Direct op_one ∷ Heard (OfFlight op_one) ∷ []

-- another session of the user
abbrev pub key_two : SessionKey
key_two = record { uaid = user_one; node = 5; at = 9 }

-- the session that holds it is closed, and another looks at the rows; then the saver saves it, and tells the other
abbrev pub one_saved : List Step
one_saved =
    one_held ++
    (Close key_one ∷ Release key_one ∷ Claim key_two ∷ Attach key_two ∷ TakeCheck key_two ∷ FetchTopic key_two ∷ FetchPlain key_two ∷ SaveOne key_one ∷
    SaveOne key_one ∷ RereadStep (OfSaver key_one) ∷ Nudge (OfSaver key_one) ∷ Heard (OfSaver key_one) ∷
    TakeCheck key_two ∷ FetchTopic key_two ∷ FetchPlain key_two ∷ AckStep key_two channel_two (id_of 1) ∷ [])

-- the saver's node is killed before it tells
abbrev pub one_orphaned : List Step
one_orphaned = take 14 one_saved ++ (Kill 3 ∷ ListOrphans ∷ Notif 5 user_one ∷ ListOrphans ∷ TakeCheck key_two ∷ FetchTopic key_two ∷ FetchPlain key_two ∷ [])

-- the channel goes before the session is closed
abbrev pub one_unsaved : List Step
one_unsaved = one_held ++ (Unregister key_one channel_two ∷ Close key_one ∷ SaveOne key_one ∷ [])

-- it is a row, and then this is done
abbrev pub one_row_then : List Step → List Step
one_row_then steps = take 12 one_stored ++ steps

-- the session can't be told of the row, and the route row loses it; then it is routed again
abbrev pub one_renewed : List Step
one_renewed =
    take 10 one_stored ++ (Renew key_one ∷ Lost (OfFlight op_one) ∷ Clear (OfFlight op_one) ∷ Renew key_one ∷ TakeCheck key_one ∷ FetchTopic key_one ∷ FetchPlain key_one ∷ [])

-- the node is killed; long after, a message is stored for the user, who is still not seen
abbrev pub one_idle : List Step
one_idle =
    Create key_one ∷ Attach key_one ∷ Register key_one channel_two token_one ∷ Kill 3 ∷ TickStep 3000000 ∷ Begin op_one token_one (ask_for 2592000 None) ∷
    Lost (OfFlight op_one) ∷ Store op_one ∷ RereadStep (OfFlight op_one) ∷ Nudge (OfFlight op_one) ∷ Heard (OfFlight op_one) ∷ Clear (OfFlight op_one) ∷
    TickStep 5183999 ∷ ListIdle ∷ Expire user_one ∷ TickStep 5184000 ∷ ListIdle ∷ Expire user_one ∷ []

abbrev pub late_message : MessageValue
late_message = record begun_message { ask = ask_for 2592000 None; accepted = 3000000 }

-- a newer session at the node of the first
abbrev pub key_three : SessionKey
key_three = record { uaid = user_one; node = 3; at = 5 }

abbrev pub one_down : List Step
one_down = Create key_one ∷ Kill 3 ∷ Attach key_one ∷ Up 3 ∷ Attach key_one ∷ Claim key_three ∷ Attach key_three ∷ []

-- the last replies: those but the first so many
abbrev pub replies_from : ℕ → List Step → List Reply
replies_from n steps = drop n (map (λ e. e.reply) (history step 1 (start 0 1) steps))

-- the pool that the images of the entries make
abbrev pub pool_from : Pool → World → List (Entry Step Reply) → Pool
pool_from p w [] = p
pool_from p w (e ∷ es) = pool_from (after_all (image p w e) p) (step w e.step).0 es

abbrev pub pool_after : World → List (Entry Step Reply) → Pool
pool_after w es = pool_from empty_pool w es

-- the one message of the history of these steps, as it is in the pool
abbrev pub message_after : List Step → List Taken
message_after steps = (pool_after (start 0 1) (history step 1 (start 0 1) steps)).taken

-- ---- a worked saver, which is to save that message beside these rows

abbrev pub key_saver : SessionKey
key_saver = record { uaid = user_one; node = 8; at = 3 }

abbrev pub to_save : MessageValue → List Row → Cell
to_save m rows =
    record five_places {
      user = Some (record (routed_to (Some 3) rows) { channels = record { chid = channel_two; token = token_one } ∷ [] });
      savers = record { node = 8; at = 3; held = m ∷ []; saved = []; stage = Saving } ∷ [];
    }

-- ---- worked users: so many from that number on, each routed to the node 3 and the moment 4

abbrev pub users_from : ℕ → ℕ → List (ℕ × Cell)
users_from n zero = []
users_from n (suc k) = (n, record (empty_cell (record { 0 = n })) { user = Some (routed_to (Some 3) []) }) ∷ users_from (n + 1) k

abbrev pub world_with : ℕ → World
world_with k = record (start 0 1) { cells = users_from 1 k }

abbrev pub listed : ℕ → Uaid × Option ℕ × ℕ
listed n = (record { 0 = n }, Some 3, 4)

abbrev pub any_cell : Cell → Bool
any_cell c = true

-- the letter a so many times
abbrev pub letters : ℕ → List ℕ
letters zero = []
letters (suc n) = 97 ∷ letters n
