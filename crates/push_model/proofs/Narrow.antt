-- A step on one user brings no user, channel or flight into the cell that wasn't there, but for the channel that Register
-- was given. So do the functions on every cell, and Begin brings one flight.
use Rattle.std.proofs.Common.{◌≡◌, ℕ, Bool, true, false, cond, ◌⊎◌, inl, inr, List, [], ◌∷◌, ◌++◌, filter, not, refl, ◌∙◌, ap, sym, subst}
use Rattle.std.specs.Prelude.{find, Option, Some, None, ◌==◌}
use Rattle.std.specs.List.{list_any}
use Rattle.push_model.specs.declared.ids.ChannelId.{ChannelId}
use Rattle.push_model.specs.declared.ids.Token.{Token}
use Rattle.push_model.specs.declared.ids.Op.{Op}
use Rattle.push_model.specs.declared.parts.Channel.{Channel}
use Rattle.push_model.specs.declared.parts.FlightRow.{FlightRow}
use Rattle.push_model.specs.declared.advance.Advance.{Advance}
use Rattle.push_model.specs.declared.advance.Advance.TheVariants.{Moved as Goes, End as Ends, Out, Absent}
use Rattle.push_model.specs.declared.step.Actor.TheVariants.{Flight as OfFlight, Saver as OfSaver}
use Rattle.push_model.specs.declared.step.Stage.{Stage}
use Rattle.push_model.specs.declared.step.Stage.TheVariants.{Direct as AtDirect, Store as AtStore}
use Rattle.push_model.specs.declared.step.Step.{Step}
use Rattle.push_model.specs.declared.step.Step.TheVariants.{Create, Attach, Register, Direct, Store, GiveUp, Reread, Nudge, Heard, Lost, TakeCheck, FetchTopic, FetchPlain, TakeDirect, Ack, Claim, Unregister, Renew, Close, Release, SaveOne, Clear, Notif, Expire, DropUser}
use Rattle.push_model.specs.declared.reply.Reply.{Reply}
use Rattle.push_model.specs.declared.reply.Reply.TheVariants.{Endpoint, Done, Dropped}
use Rattle.push_model.specs.Names.{is_same_op}
use Rattle.push_model.specs.declared.ids.Uaid.{Uaid}
use Rattle.push_model.specs.SessionKey.{SessionKey}
use Rattle.push_model.specs.MessageValue.{MessageValue}
use Rattle.push_model.specs.Keyed.{with_first}
use Rattle.push_model.specs.Cells.{Cell, channels_of, is_channel, is_flight, routed_place}
use Rattle.push_model.specs.Advances.{at_stage, advanced}
use Rattle.push_model.specs.Outcomes.{Outcome}
use Rattle.push_model.specs.FlightSteps.{begin, begin_to}
use Rattle.push_model.specs.NodeSteps.{killed}
use Rattle.push_model.specs.ClockSteps.{ticked}
use Rattle.push_model.specs.Steps.{Action, OnUser, OnFlight, OnShard, Does, action}
use Rattle.push_model.specs.Narrow.{LeavesChannels, Registered, Same, Added, Unregistered, WithUser}
use Rattle.push_model.proofs.Members.{In, in-filter, in-snoc, in-without_first, among, list_any-in}
use Rattle.push_model.proofs.SameChannels.{same_with_orphans, same_without_due}
use Rattle.push_model.proofs.Quiet.{Quiet, attach_quiet, ack_quiet, claim_quiet, create_quiet, drop_quiet, expire_quiet, fetch_plain_quiet, fetch_topic_quiet, notif_quiet, register_quiet, renew_quiet, take_check_quiet, take_direct_quiet, unregister_quiet}
use Rattle.push_model.proofs.QuietSavers.{close_quiet, release_quiet, save_quiet, saver_clear_quiet, saver_heard_quiet, saver_lost_quiet, saver_nudge_quiet, saver_reread_quiet}
use Rattle.push_model.proofs.Moving.{Moved, Moves, Stay, Advanced, Turn, clear_moves, direct_moves, give_up_moves, heard_moves, lost_moves, nudge_moves, reread_moves, store_moves}

-- ---- each step on one user, by whose it is

abbrev pub Walked : Step → Action → Cell → Type 0
Walked x (OnUser u f) c = Quiet x c (f c)
Walked x (OnFlight o f) c = Moves x o c (f c)
Walked x (OnShard f) c = Unit {0}

pub walked : (moment : ℕ) (x : Step) (c : Cell) → Walked x (action moment x) c
walked moment (Create s) c = create_quiet moment s c
walked moment (Attach s) c = attach_quiet s c
walked moment (Register s h t) c = register_quiet s h t c
walked moment (Direct o) c = direct_moves moment o c
walked moment (Store o) c = store_moves moment o c
walked moment (GiveUp o) c = give_up_moves o c
walked moment (Reread (OfFlight o)) c = reread_moves o c
walked moment (Reread (OfSaver s)) c = saver_reread_quiet s c
walked moment (Nudge (OfFlight o)) c = nudge_moves o c
walked moment (Nudge (OfSaver s)) c = saver_nudge_quiet s c
walked moment (Heard (OfFlight o)) c = heard_moves o c
walked moment (Heard (OfSaver s)) c = saver_heard_quiet s c
walked moment (Lost (OfFlight o)) c = lost_moves o c
walked moment (Lost (OfSaver s)) c = saver_lost_quiet s c
walked moment (TakeCheck s) c = take_check_quiet s c
walked moment (FetchTopic s) c = fetch_topic_quiet s c
walked moment (FetchPlain s) c = fetch_plain_quiet s c
walked moment (TakeDirect s) c = take_direct_quiet moment s c
walked moment (Ack s h i) c = ack_quiet s h i c
walked moment (Claim s) c = claim_quiet moment s c
walked moment (Unregister s h) c = unregister_quiet s h c
walked moment (Renew s) c = renew_quiet moment s c
walked moment (Close s) c = close_quiet moment s c
walked moment (Release s) c = release_quiet s c
walked moment (SaveOne s) c = save_quiet moment s c
walked moment (Clear (OfFlight o)) c = clear_moves o c
walked moment (Clear (OfSaver s)) c = saver_clear_quiet s c
walked moment (Notif n u) c = notif_quiet n u c
walked moment (Expire u) c = expire_quiet moment u c
walked moment (DropUser u) c = drop_quiet u c
walked moment _ c = tt

-- ---- flights

-- a flight among fs has the op, the message and the token of g
pub record Flown (fs : List FlightRow) (g : FlightRow) : Type 0 where
  pub flight : FlightRow
  pub member : In flight fs
  pub op : g.op ≡ flight.op
  pub message : g.message ≡ flight.message
  pub token : g.token ≡ flight.token

-- each of gs is so
abbrev pub AllFlown : List FlightRow → List FlightRow → Type 0
AllFlown fs gs = (g : FlightRow) → In g gs → Flown fs g

itself : (fs : List FlightRow) (g : FlightRow) → In g fs → Flown fs g
itself fs g i = record { flight = g; member = i; op = refl; message = refl; token = refl }

pub same_flown : (fs gs : List FlightRow) → gs ≡ fs → AllFlown fs gs
same_flown fs gs e g i = itself fs g (subst (In g) e i)

flown_later : (f : FlightRow) (fs : List FlightRow) (g : FlightRow) → Flown fs g → Flown (f ∷ fs) g
flown_later f fs g h = record { flight = h.flight; member = inr h.member; op = h.op; message = h.message; token = h.token }

turned : (t : Stage) (f : FlightRow) (fs : List FlightRow) (g : FlightRow) → g ≡ at_stage t f → Flown (f ∷ fs) g
turned t f fs g e =
    record { flight = f; member = inl refl; op = ap (λ z. z.op) e; message = ap (λ z. z.message) e; token = ap (λ z. z.token) e }

staged_cons : (t : Stage) (b : Bool) (f : FlightRow) (fs gs : List FlightRow) → AllFlown fs gs →
    AllFlown (f ∷ fs) (cond b (at_stage t f ∷ fs) (f ∷ gs))
staged_cons t true f fs gs h g (inl e) = turned t f fs g e
staged_cons t true f fs gs h g (inr i) = itself (f ∷ fs) g (inr i)
staged_cons t false f fs gs h g (inl e) = itself (f ∷ fs) g (inl e)
staged_cons t false f fs gs h g (inr i) = flown_later f fs g (h g i)

staged_flown : (p : FlightRow → Bool) (t : Stage) (fs : List FlightRow) → AllFlown fs (with_first p (at_stage t) fs)
staged_flown p t [] g i = absurd i
staged_flown p t (f ∷ fs) g i = staged_cons t (p f) f fs (with_first p (at_stage t) fs) (staged_flown p t fs) g i

advanced_flown : (o : Op) (a : Advance) (fs : List FlightRow) → AllFlown fs (advanced a o fs)
advanced_flown o (Goes t) fs = staged_flown (is_flight o) t fs
advanced_flown o (Ends n) fs = λ g i. itself fs g (in-without_first (is_flight o) g fs i)
advanced_flown o (Out t) fs = itself fs
advanced_flown o Absent fs = itself fs

moved_flown : (x : Step) (k : Op) (fs gs : List FlightRow) → Moved x k fs gs → AllFlown fs gs
moved_flown x k fs gs (Stay e) = same_flown fs gs e
moved_flown x k fs gs (Advanced own a e) = λ g i. advanced_flown k a fs g (subst (In g) e i)
moved_flown x k fs gs (Turn f t there turn e) = λ g i. staged_flown (is_flight k) t fs g (subst (In g) e i)

-- ---- what a step on one user leaves

-- The user's name stays. The channels are those that the step leaves. Each flight has the op, the message and the token
-- of a flight that was there.
pub record NarrowBy (x : Step) (c : Cell) (out : Outcome) : Type 0 where
  pub uaid : out.cell.uaid ≡ c.uaid
  pub channels : LeavesChannels x (channels_of c.user) (channels_of out.cell.user) out.reply
  pub flights : AllFlown c.flights out.cell.flights

quiet_narrow : (x : Step) (c : Cell) (out : Outcome) → Quiet x c out → NarrowBy x c out
quiet_narrow x c out h = record { uaid = h.uaid; channels = h.channels; flights = same_flown c.flights out.cell.flights h.flights }

moves_narrow : (x : Step) (k : Op) (c : Cell) (out : Outcome) → Moves x k c out → NarrowBy x c out
moves_narrow x k c out h = record { uaid = h.uaid; channels = h.channels; flights = moved_flown x k c.flights out.cell.flights h.flights }

narrow_of : (x : Step) (a : Action) (c : Cell) (out : Outcome) → Walked x a c → Does a c out → NarrowBy x c out
narrow_of x (OnUser u f) c out h e = subst (NarrowBy x c) e (quiet_narrow x c (f c) h)
narrow_of x (OnFlight o f) c out h e = subst (NarrowBy x c) e (moves_narrow x o c (f c) h)
narrow_of x (OnShard f) c out h e = absurd e

pub narrowed : (moment : ℕ) (x : Step) (c : Cell) (out : Outcome) → Does (action moment x) c out → NarrowBy x c out
narrowed moment x c out d = narrow_of x (action moment x) c out (walked moment x c) d

-- ---- so each channel was there, or is the one that is registered

-- Register was given it, where no channel had its id, and the reply is its token
pub record NewChannel (h : ChannelId) (t : Token) (xs : List Channel) (reply : Reply) (y : Channel) : Type 0 where
  pub is : y ≡ record { chid = h; token = t }
  pub absent : find (is_channel h) xs ≡ None
  pub given : reply ≡ Endpoint t

abbrev pub IsNewBy : Step → List Channel → Reply → Channel → Type 0
IsNewBy (Register s h t) xs r y = NewChannel h t xs r y
IsNewBy _ xs r y = ⊥

was_there : {A : Type 0} (xs ys : List Channel) (y : Channel) → ys ≡ xs → In y ys → In y xs ⊎ A
was_there xs ys y e i = inl (subst (In y) e i)

registered_from : (h : ChannelId) (t : Token) (xs ys : List Channel) (r : Reply) (y : Channel) → Registered h t xs ys r → In y ys →
    In y xs ⊎ NewChannel h t xs r y
registered_from h t xs ys r y (Same e) i = was_there xs ys y e i
registered_from h t xs ys r y (Added n g e) i =
    elim (in-snoc y _ xs (subst (In y) e i)) [ inl j ↦ inl j | inr q ↦ inr (record { is = q; absent = n; given = g }) ]

unregistered_from : (h : ChannelId) (xs ys : List Channel) (r : Reply) (y : Channel) → Unregistered h xs ys r → In y ys → In y xs ⊎ ⊥
unregistered_from h xs ys Done y e i = inl (in-filter (λ x. not (is_channel h x)) y xs (subst (In y) e i))
unregistered_from h xs ys _ y e i = was_there xs ys y e i

user_from : (xs ys : List Channel) (r : Reply) (y : Channel) → WithUser xs ys r → In y ys → In y xs ⊎ ⊥
user_from xs ys Dropped y e i = absurd (subst (In y) e i)
user_from xs ys _ y e i = was_there xs ys y e i

left_from : (x : Step) (xs ys : List Channel) (r : Reply) (y : Channel) → LeavesChannels x xs ys r → In y ys → In y xs ⊎ IsNewBy x xs r y
left_from (Register s h t) xs ys r y e i = registered_from h t xs ys r y e i
left_from (Unregister s h) xs ys r y e i = unregistered_from h xs ys r y e i
left_from (Expire u) xs ys r y e i = user_from xs ys r y e i
left_from (DropUser u) xs ys r y e i = user_from xs ys r y e i
left_from _ xs ys r y e i = was_there xs ys y e i

pub channel_from : (x : Step) (c : Cell) (out : Outcome) (y : Channel) → NarrowBy x c out → In y (channels_of out.cell.user) →
    In y (channels_of c.user) ⊎ IsNewBy x (channels_of c.user) out.reply y
channel_from x c out y h i = left_from x (channels_of c.user) (channels_of out.cell.user) out.reply y h.channels i

-- a new one is Register's
pub new_by_register : (x : Step) (xs : List Channel) (r : Reply) (y : Channel) → IsNewBy x xs r y →
    (s : SessionKey) × (h : ChannelId) × (t : Token) × (x ≡ Register s h t) × NewChannel h t xs r y
new_by_register (Register s h t) xs r y n = (s, h, t, refl, n)
new_by_register _ xs r y n = absurd n

-- and each op that is in flight was so
pub op_from : (o : Op) (fs gs : List FlightRow) → AllFlown fs gs → list_any (is_flight o) gs ≡ true → list_any (is_flight o) fs ≡ true
op_from o fs gs h e =
    let g = among (is_flight o) gs e in
    let f = h g.one g.member in
    list_any-in (is_flight o) f.flight fs f.member (ap (λ z. is_same_op z o) (sym f.op) ∙ g.passes)

-- ---- the steps that take channels away

done_others : (h : ChannelId) (xs ys : List Channel) (r : Reply) → Unregistered h xs ys r → r ≡ Done → ys ≡ filter (λ x. not (is_channel h x)) xs
done_others h xs ys r k e = subst (Unregistered h xs ys) e k

-- Unregister leaves exactly the others, where the reply is Done
pub unregistered_others : (moment : ℕ) (s : SessionKey) (h : ChannelId) (c : Cell) (out : Outcome) → Does (action moment (Unregister s h)) c out →
    out.reply ≡ Done → channels_of out.cell.user ≡ filter (λ x. not (is_channel h x)) (channels_of c.user)
unregistered_others moment s h c out d e =
    done_others h (channels_of c.user) (channels_of out.cell.user) out.reply (narrowed moment (Unregister s h) c out d).channels e

none_with : (xs ys : List Channel) (r : Reply) → WithUser xs ys r → r ≡ Dropped → ys ≡ []
none_with xs ys r k e = subst (WithUser xs ys) e k

-- DropUser and Expire leave none, where the reply is Dropped
pub dropped_none : (moment : ℕ) (u : Uaid) (c : Cell) (out : Outcome) → Does (action moment (DropUser u)) c out → out.reply ≡ Dropped →
    channels_of out.cell.user ≡ []
dropped_none moment u c out d e =
    none_with (channels_of c.user) (channels_of out.cell.user) out.reply (narrowed moment (DropUser u) c out d).channels e

pub expired_none : (moment : ℕ) (u : Uaid) (c : Cell) (out : Outcome) → Does (action moment (Expire u)) c out → out.reply ≡ Dropped →
    channels_of out.cell.user ≡ []
expired_none moment u c out d e =
    none_with (channels_of c.user) (channels_of out.cell.user) out.reply (narrowed moment (Expire u) c out d).channels e

-- ---- the functions on every cell

-- the user's name, the channels and the flights are the same
pub record SameNames (c v : Cell) : Type 0 where
  pub uaid : v.uaid ≡ c.uaid
  pub channels : channels_of v.user ≡ channels_of c.user
  pub flights : v.flights ≡ c.flights

pub ticked_names : (moment : ℕ) (c : Cell) → SameNames c (ticked moment c)
ticked_names moment c = record { uaid = refl; channels = same_without_due moment c.user; flights = refl }

pub killed_names : (n : ℕ) (c : Cell) → SameNames c (killed n c)
killed_names n c = record { uaid = refl; channels = same_with_orphans n c.savers c.user; flights = refl }

-- ---- Begin

-- the flights stay, or that one comes last
pub data BegunBy (o : Op) (t : Token) (m : MessageValue) (fs gs : List FlightRow) : Type 0 where
  Unkept : (same : gs ≡ fs) → BegunBy o t m fs gs
  Last : (stage : Stage) → (last : gs ≡ fs ++ record { op = o; message = m; token = t; stage = stage } ∷ []) → BegunBy o t m fs gs

-- the user stays
pub record NarrowBegun (o : Op) (t : Token) (m : MessageValue) (c v : Cell) : Type 0 where
  pub uaid : v.uaid ≡ c.uaid
  pub user : v.user ≡ c.user
  pub flights : BegunBy o t m c.flights v.flights

begun_by : (o : Op) (t : Token) (m : MessageValue) (c : Cell) (p : Option (ℕ × ℕ)) (b : Bool) → (m.ask.terms.ttl == 0) ≡ b →
    NarrowBegun o t m c (begin_to p o t m c).cell
begun_by o t m c (Some p) b e = record { uaid = refl; user = refl; flights = Last (AtDirect p.0 p.1) refl }
begun_by o t m c None true e = rw e (record { uaid = refl; user = refl; flights = Unkept refl })
begun_by o t m c None false e = rw e (record { uaid = refl; user = refl; flights = Last AtStore refl })

pub begin_narrow : (o : Op) (t : Token) (m : MessageValue) (c : Cell) → NarrowBegun o t m c (begin o t m c).cell
begin_narrow o t m c = begun_by o t m c (routed_place c.user) (m.ask.terms.ttl == 0) refl

-- a flight that is begun, or has the op, the message and the token of one that was there
pub flight_from : (o : Op) (t : Token) (m : MessageValue) (fs gs : List FlightRow) (g : FlightRow) → BegunBy o t m fs gs → In g gs →
    In g fs ⊎ ((g.op ≡ o) × (g.message ≡ m) × (g.token ≡ t))
flight_from o t m fs gs g (Unkept e) i = inl (subst (In g) e i)
flight_from o t m fs gs g (Last stage e) i =
    elim (in-snoc g _ fs (subst (In g) e i)) [ inl j ↦ inl j | inr q ↦ inr (ap (λ z. z.op) q, ap (λ z. z.message) q, ap (λ z. z.token) q) ]
