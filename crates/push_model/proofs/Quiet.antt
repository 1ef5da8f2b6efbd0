-- What the steps of a session and of a user reply, and what they leave of the user's channels and flights.
use Rattle.std.proofs.Common.{◌≡◌, ℕ, Bool, true, false, List, [], ◌∷◌, ◌++◌, refl, sym, ap}
use Rattle.std.specs.Prelude.{find, Option, Some, None, is_some, nat_lt, if◌then◌else◌}
use Rattle.std.specs.List.{list_any}
use Rattle.push_model.specs.declared.ids.ChannelId.{ChannelId}
use Rattle.push_model.specs.declared.ids.Token.{Token}
use Rattle.push_model.specs.declared.ids.MsgId.{MsgId}
use Rattle.push_model.specs.declared.ids.Uaid.{Uaid}
use Rattle.push_model.specs.declared.parts.Channel.{Channel}
use Rattle.push_model.specs.declared.parts.Claim.{Claim}
use Rattle.push_model.specs.declared.step.Fetch.{Fetch}
use Rattle.push_model.specs.declared.step.Fetch.TheVariants.{Topic, Plain}
use Rattle.push_model.specs.declared.step.Step.{Step}
use Rattle.push_model.specs.declared.step.Step.TheVariants.{Create, Attach, Register, TakeCheck, FetchTopic, FetchPlain, TakeDirect, Ack, Claim as ClaimStep, Unregister, Renew, Notif, Expire, DropUser}
use Rattle.push_model.specs.declared.reply.Reply.{Reply}
use Rattle.push_model.specs.declared.reply.Reply.TheVariants.{Taken, Made}
use Rattle.push_model.specs.SessionKey.{SessionKey}
use Rattle.push_model.specs.Keyed.{without_first}
use Rattle.push_model.specs.Sessions.{Session, is_attached_at, has_direct, was_sent, is_due}
use Rattle.push_model.specs.Cells.{Cell, User, is_claim, is_channel, channels_of}
use Rattle.push_model.specs.Outcomes.{Outcome, outcome}
use Rattle.push_model.specs.UserSteps.{create, new_claim, new_user, claim, claim_of, expire, is_idle_user, drop_user}
use Rattle.push_model.specs.SessionSteps.{attach, attach_beside, register, register_beside, attached, take_direct, take_direct_of, ack, ack_of, renew, is_renewable, unregister}
use Rattle.push_model.specs.FetchSteps.{take_check, take_check_of, fetch_topic, fetch_topic_of, fetch_topic_at, fetch_plain, fetch_plain_of, fetch_plain_at}
use Rattle.push_model.specs.NodeSteps.{told, told_reply, notif}
use Rattle.push_model.specs.Narrow.{LeavesChannels, Same}
use Rattle.push_model.specs.Replies.{replies_to}
use Rattle.push_model.proofs.SameChannels.{none_there, registered, same_renewed, same_told, same_unmarked_for, same_without_row, unregistered}

-- the reply is one that the step can have
abbrev pub RepliesTo : Step → Reply → Type 0
RepliesTo x r = replies_to x r ≡ true

-- the channels are left as the step leaves them, the flights stay, and the reply is one that the step can have
pub record Quiet (x : Step) (c : Cell) (m : Outcome) : Type 0 where
  pub uaid : m.cell.uaid ≡ c.uaid
  pub channels : LeavesChannels x (channels_of c.user) (channels_of m.cell.user) m.reply
  pub flights : m.cell.flights ≡ c.flights
  pub reply : RepliesTo x m.reply

pub quiet : {x : Step} {c : Cell} {m : Outcome} → m.cell.uaid ≡ c.uaid → m.cell.flights ≡ c.flights →
    LeavesChannels x (channels_of c.user) (channels_of m.cell.user) m.reply → RepliesTo x m.reply → Quiet x c m
quiet u f h r = record { uaid = u; channels = h; flights = f; reply = r }

pub either : {x : Step} {c : Cell} {m n : Outcome} (b : Bool) → Quiet x c m → Quiet x c n → Quiet x c (if b then m else n)
either true h k = h
either false h k = k

-- ---- users

create_by : (moment : ℕ) (s : SessionKey) (c : Cell) (b : Bool) → is_some c.user ≡ b →
    Quiet (Create s) c (if b then outcome c Taken else outcome (record c { user = Some (new_user moment s); claims = c.claims ++ new_claim s ∷ [] }) Made)
create_by moment s c true e = quiet refl refl refl refl
create_by moment s c false e = quiet refl refl (sym (none_there c.user e)) refl

pub create_quiet : (moment : ℕ) (s : SessionKey) (c : Cell) → Quiet (Create s) c (create moment s c)
create_quiet moment s c = create_by moment s c (is_some c.user) refl

claim_of_quiet : (o : Option User) (moment : ℕ) (s : SessionKey) (c : Cell) → c.user ≡ o → Quiet (ClaimStep s) c (claim_of o moment s c)
claim_of_quiet None moment s c e = quiet refl refl refl refl
claim_of_quiet (Some u) moment s c e =
    either (nat_lt u.route.at s.at) (quiet refl refl (sym (ap channels_of e)) refl) (quiet refl refl refl refl)

pub claim_quiet : (moment : ℕ) (s : SessionKey) (c : Cell) → Quiet (ClaimStep s) c (claim moment s c)
claim_quiet moment s c = claim_of_quiet c.user moment s c refl

pub expire_quiet : (moment : ℕ) (u : Uaid) (c : Cell) → Quiet (Expire u) c (expire moment c)
expire_quiet moment u c = either (is_idle_user moment c.user c.sessions) (quiet refl refl refl refl) (quiet refl refl refl refl)

pub drop_quiet : (u : Uaid) (c : Cell) → Quiet (DropUser u) c (drop_user c)
drop_quiet u c = either (is_some c.user) (quiet refl refl refl refl) (quiet refl refl refl refl)

notif_of_quiet : (n : ℕ) (u : Uaid) (x : Option Session) (c : Cell) → Quiet (Notif n u) c (outcome (told n x c) (told_reply x c))
notif_of_quiet n u None c = quiet refl refl refl refl
notif_of_quiet n u (Some x) c = quiet refl refl (same_told n (Some x) c) refl

pub notif_quiet : (n : ℕ) (u : Uaid) (c : Cell) → Quiet (Notif n u) c (notif n c)
notif_quiet n u c = notif_of_quiet n u (find (is_attached_at n) c.sessions) c

-- ---- sessions

attach_beside_quiet : (x : Option Session) (ks : List Claim) (s : SessionKey) (c : Cell) →
    Quiet (Attach s) c (attach_beside x s (record c { claims = ks }))
attach_beside_quiet None ks s c = quiet refl refl (same_unmarked_for s.node s.at c.user) refl
attach_beside_quiet (Some x) ks s c =
    either (nat_lt s.at x.at) (quiet refl refl refl refl) (quiet refl refl (same_unmarked_for s.node s.at c.user) refl)

pub attach_quiet : (s : SessionKey) (c : Cell) → Quiet (Attach s) c (attach s c)
attach_quiet s c =
    either (list_any (is_claim s) c.claims)
    (attach_beside_quiet (find (is_attached_at s.node) c.sessions) (without_first (is_claim s) c.claims) s c)
    (quiet refl refl refl refl)

register_beside_quiet : (x : Option Channel) (s : SessionKey) (h : ChannelId) (t : Token) (c : Cell) → find (is_channel h) (channels_of c.user) ≡ x →
    Quiet (Register s h t) c (register_beside x h t c)
register_beside_quiet None s h t c e = quiet refl refl (registered h t c.user e) refl
register_beside_quiet (Some x) s h t c e = quiet refl refl (Same refl) refl

pub register_quiet : (s : SessionKey) (h : ChannelId) (t : Token) (c : Cell) → Quiet (Register s h t) c (register s h t c)
register_quiet s h t c =
    either (is_some (attached s c)) (register_beside_quiet (find (is_channel h) (channels_of c.user)) s h t c refl) (quiet refl refl (Same refl) refl)

pub unregister_quiet : (s : SessionKey) (h : ChannelId) (c : Cell) → Quiet (Unregister s h) c (unregister s h c)
unregister_quiet s h c = either (is_some (attached s c)) (quiet refl refl (unregistered h c.user) refl) (quiet refl refl refl refl)

take_direct_of_quiet : (x : Option Session) (moment : ℕ) (s : SessionKey) (c : Cell) → Quiet (TakeDirect s) c (take_direct_of x moment s c)
take_direct_of_quiet None moment s c = quiet refl refl refl refl
take_direct_of_quiet (Some x) moment s c = quiet refl refl refl refl

pub take_direct_quiet : (moment : ℕ) (s : SessionKey) (c : Cell) → Quiet (TakeDirect s) c (take_direct moment s c)
take_direct_quiet moment s c = take_direct_of_quiet (attached s c) moment s c

ack_of_quiet : (x : Option Session) (s : SessionKey) (h : ChannelId) (i : MsgId) (c : Cell) → Quiet (Ack s h i) c (ack_of x s h i c)
ack_of_quiet None s h i c = quiet refl refl refl refl
ack_of_quiet (Some x) s h i c =
    either (has_direct h i x) (quiet refl refl (same_without_row i c.user) refl)
    (either (was_sent h i x) (quiet refl refl (same_without_row i c.user) refl) (quiet refl refl refl refl))

pub ack_quiet : (s : SessionKey) (h : ChannelId) (i : MsgId) (c : Cell) → Quiet (Ack s h i) c (ack s h i c)
ack_quiet s h i c = ack_of_quiet (attached s c) s h i c

pub renew_quiet : (moment : ℕ) (s : SessionKey) (c : Cell) → Quiet (Renew s) c (renew moment s c)
renew_quiet moment s c =
    either (is_some (attached s c))
    (either (is_renewable s c.user) (quiet refl refl (same_renewed moment s c.user) refl) (quiet refl refl refl refl))
    (quiet refl refl refl refl)

-- ---- the stored rows

take_check_of_quiet : (x : Option Session) (s : SessionKey) (c : Cell) → Quiet (TakeCheck s) c (take_check_of x s c)
take_check_of_quiet None s c = quiet refl refl refl refl
take_check_of_quiet (Some x) s c = either (is_due x) (quiet refl refl refl refl) (quiet refl refl refl refl)

pub take_check_quiet : (s : SessionKey) (c : Cell) → Quiet (TakeCheck s) c (take_check s c)
take_check_quiet s c = take_check_of_quiet (attached s c) s c

fetch_topic_at_quiet : (f : Fetch) (x : Session) (s : SessionKey) (c : Cell) → Quiet (FetchTopic s) c (fetch_topic_at f x s c)
fetch_topic_at_quiet Topic x s c = quiet refl refl refl refl
fetch_topic_at_quiet _ x s c = quiet refl refl refl refl

fetch_topic_of_quiet : (x : Option Session) (s : SessionKey) (c : Cell) → Quiet (FetchTopic s) c (fetch_topic_of x s c)
fetch_topic_of_quiet None s c = quiet refl refl refl refl
fetch_topic_of_quiet (Some x) s c = fetch_topic_at_quiet x.fetch x s c

pub fetch_topic_quiet : (s : SessionKey) (c : Cell) → Quiet (FetchTopic s) c (fetch_topic s c)
fetch_topic_quiet s c = fetch_topic_of_quiet (attached s c) s c

fetch_plain_at_quiet : (f : Fetch) (x : Session) (s : SessionKey) (c : Cell) → Quiet (FetchPlain s) c (fetch_plain_at f x s c)
fetch_plain_at_quiet Plain x s c = quiet refl refl refl refl
fetch_plain_at_quiet _ x s c = quiet refl refl refl refl

fetch_plain_of_quiet : (x : Option Session) (s : SessionKey) (c : Cell) → Quiet (FetchPlain s) c (fetch_plain_of x s c)
fetch_plain_of_quiet None s c = quiet refl refl refl refl
fetch_plain_of_quiet (Some x) s c = fetch_plain_at_quiet x.fetch x s c

pub fetch_plain_quiet : (s : SessionKey) (c : Cell) → Quiet (FetchPlain s) c (fetch_plain s c)
fetch_plain_quiet s c = fetch_plain_of_quiet (attached s c) s c
