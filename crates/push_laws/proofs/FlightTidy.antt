-- The steps of flights and savers leave a cell tidy.
use Rattle.std.proofs.Common.{◌≡◌, ℕ, Bool, true, false, ◌&&◌, not, inl, inr, List, [], ◌∷◌, ◌++◌, refl, ◌∙◌, ap, sym, subst, arith}
use Rattle.std.specs.Prelude.{Option, Some, None, find, is_some, nat_lt, ◌==◌, if◌then◌else◌}
use Rattle.std.specs.List.{list_any}
use Rattle.std.proofs.lemmas.Bool.Decides.{nat_tests}
use Rattle.push_model.specs.declared.ids.Op.{Op}
use Rattle.push_model.specs.declared.ids.Token.{Token}
use Rattle.push_model.specs.declared.parts.FlightRow.{FlightRow}
use Rattle.push_model.specs.declared.advance.Event.{Event}
use Rattle.push_model.specs.declared.advance.Advance.TheVariants.{Moved as Goes}
use Rattle.push_model.specs.declared.advance.Event.TheVariants.{Read as ReadPlace, AllSaved as NothingHeld}
use Rattle.push_model.specs.declared.reply.Reason.TheVariants.{Channel as NoChannel, Zero as NoTtl, Expired as TooLate}
use Rattle.push_model.specs.declared.reply.Reply.TheVariants.{Begun, Here, NotHere, Left}
use Rattle.push_model.specs.declared.standing.Verdict.{Verdict}
use Rattle.push_model.specs.declared.standing.Verdict.TheVariants.{Stays, Older, Full, Joins}
use Rattle.push_model.specs.declared.step.Stage.{Stage}
use Rattle.push_model.specs.declared.step.Stage.TheVariants.{Direct as AtDirect, Told, Store as AtStore, Reread as AtReread, Nudge as AtNudge, ToldNudge as AtToldNudge, Clear as AtClear, Saving as AtSaving}
use Rattle.push_model.specs.SessionKey.{SessionKey}
use Rattle.push_model.specs.MessageValue.{MessageValue}
use Rattle.push_model.specs.Messages.{is_expired}
use Rattle.push_model.specs.Keyed.{without_first}
use Rattle.push_model.specs.Rows.{verdict}
use Rattle.push_model.specs.Sessions.{Session, given, has_room, is_attached_at, is_session}
use Rattle.push_model.specs.Cells.{Cell, Saver, channels_of, cleared_for, has_token, is_channel, is_flight, is_saver, is_token, rows_of, with_stored, routed_place}
use Rattle.push_model.specs.Outcomes.{outcome}
use Rattle.push_model.specs.FlightSteps.{answered, begin, begin_to, can_give, clear, clear_at, clear_of, direct, direct_at, direct_of, flight, flight_step, nudge, nudge_at, nudge_of, reread, store, store_at, store_by, store_of, with_flight, with_given, with_stage}
use Rattle.push_model.specs.SaverSteps.{close, close_of, left, new_saver, release, release_at, release_of, save, save_at, save_by, save_held, save_of, saved, saver, saver_clear, saver_clear_at, saver_clear_of, saver_nudge, saver_nudge_at, saver_nudge_of, saver_reread, saver_step, saver_advance_of, touched, with_held, with_saved}
use Rattle.push_model.specs.NodeSteps.{notif, told}
use Rattle.push_model.specs.Pools.{Pool}
use Rattle.push_model.proofs.Members.{In, among, find_in, find_passes, in-snoc, in-without_first, list_any-in}
use Rattle.push_model.proofs.Marks.{and_left, and_right, both}
use Rattle.push_model.proofs.Care.{CareFacts}
use Rattle.push_model.proofs.CellFacts.{CellFacts, IsLasting, IsStoring}
use Rattle.push_laws.specs.Sound.{lasts}
use Rattle.push_laws.proofs.Counts.{one, amount-moved, amount-snoc, amount-without}
use Rattle.push_laws.proofs.UserRows.{HasChannel, cleared_fewer, stored_facts, stored_within, touched_fewer}
use Rattle.push_laws.proofs.Actors.{IsBounded, SaverBound, given_bound, saver_key, session_key, tail_bound, user_actors}
use Rattle.push_laws.proofs.Tidy.{Tidy, flights_tidy, saver_moved_tidy, saver_tidy, savers_tidy, session_tidy, told_tidy, user_tidy}
use Rattle.push_laws.proofs.SessionTidy.{either_tidy, same_number}

-- ---- Notif, Begin, and what an event alone does

pub notif_tidy : (moment n : ℕ) (c : Cell) → Tidy moment c → Tidy moment (notif n c).cell
notif_tidy moment n c h = told_tidy moment n (find (is_attached_at n) c.sessions) c refl h

begin_to_tidy : (moment : ℕ) (p : Option (ℕ × ℕ)) (o : Op) (t : Token) (m : MessageValue) (c : Cell) → Tidy moment c → Tidy moment (begin_to p o t m c).cell
begin_to_tidy moment (Some p) o t m c h = flights_tidy moment c (c.flights ++ record { op = o; message = m; token = t; stage = AtDirect p.0 p.1 } ∷ []) h
begin_to_tidy moment None o t m c h =
    either_tidy moment (m.ask.terms.ttl == 0) (outcome c (Begun m.id None)) (outcome (with_flight o t m AtStore c) (Begun m.id None)) h
    (flights_tidy moment c (c.flights ++ record { op = o; message = m; token = t; stage = AtStore } ∷ []) h)

pub begin_tidy : (moment : ℕ) (o : Op) (t : Token) (m : MessageValue) (c : Cell) → Tidy moment c → Tidy moment (begin o t m c).cell
begin_tidy moment o t m c h = begin_to_tidy moment (routed_place c.user) o t m c h

pub event_tidy : (moment : ℕ) (event : Event) (o : Op) (c : Cell) → Tidy moment c → Tidy moment (flight_step event o c).cell
event_tidy moment event o c h = record { rows = h.rows; actors = h.actors }

pub reread_tidy : (moment : ℕ) (o : Op) (c : Cell) → Tidy moment c → Tidy moment (reread o c).cell
reread_tidy moment o c h = record { rows = h.rows; actors = h.actors }

staged_tidy : (moment : ℕ) (o : Op) (stage : Stage) (c : Cell) → Tidy moment c → Tidy moment (with_stage o stage c)
staged_tidy moment o stage c h = record { rows = h.rows; actors = h.actors }

ended_tidy : (moment code : ℕ) (o : Op) (c : Cell) → Tidy moment c → Tidy moment (answered code o c).cell
ended_tidy moment code o c h = record { rows = h.rows; actors = h.actors }

-- ---- Direct

given_tidy : (moment n : ℕ) (o : Op) (f : FlightRow) (c : Cell) (x : Session) → find (is_attached_at n) c.sessions ≡ Some x → has_room x ≡ true → Tidy moment c →
    Tidy moment (with_stage o (Told true) (with_given n f.message c))
given_tidy moment n o f c x e r h =
    staged_tidy moment o (Told true) (with_given n f.message c)
    (session_tidy moment c (is_attached_at n) (given f.message) x e (λ y. refl) (λ y. refl) (λ b. given_bound f.message x r) h)

direct_by : (moment n k : ℕ) (o : Op) (f : FlightRow) (c : Cell) (x : Option Session) (b : Bool) → find (is_attached_at n) c.sessions ≡ x → can_give x k f c.user ≡ b →
    Tidy moment c →
    Tidy moment (if b then outcome (with_stage o (Told true) (with_given n f.message c)) (Here c.uaid) else outcome (with_stage o (Told false) c) NotHere).cell
direct_by moment n k o f c x false e g h = staged_tidy moment o (Told false) c h
direct_by moment n k o f c None true e g h = cc
direct_by moment n k o f c (Some x) true e g h = given_tidy moment n o f c x e (and_left (has_room x) (has_token f.message.chid f.token c.user) (and_left (has_room x && has_token f.message.chid f.token c.user) (not (is_expired k f.message)) g)) h

direct_at_tidy : (moment k : ℕ) (stage : Stage) (o : Op) (f : FlightRow) (c : Cell) → Tidy moment c → Tidy moment (direct_at stage k o f c).cell
direct_at_tidy moment k (AtDirect n a) o f c h =
    direct_by moment n k o f c (find (is_attached_at n) c.sessions) (can_give (find (is_attached_at n) c.sessions) k f c.user) refl refl h
direct_at_tidy moment k _ o f c h = h

direct_of_tidy : (moment k : ℕ) (f : Option FlightRow) (o : Op) (c : Cell) → Tidy moment c → Tidy moment (direct_of f k o c).cell
direct_of_tidy moment k None o c h = h
direct_of_tidy moment k (Some f) o c h = direct_at_tidy moment k f.stage o f c h

pub direct_tidy : (moment k : ℕ) (o : Op) (c : Cell) → Tidy moment c → Tidy moment (direct k o c).cell
direct_tidy moment k o c h = direct_of_tidy moment k (flight o c) o c h

-- ---- a message becomes a row

row_tidy : (moment : ℕ) (m : MessageValue) (c : Cell) → HasChannel m c.user → lasts moment m ≡ true → Tidy moment c → Tidy moment (record c { user = with_stored m c.user })
row_tidy moment m c k l h =
    record {
      rows = stored_facts moment m c.user k l h.rows;
      actors = user_actors c.user (with_stored m c.user) c.claims c.sessions c.savers (λ a w. stored_within m a c.user w) h.actors;
    }

above : (n : ℕ) → (n == 0) ≡ false → nat_lt 0 n ≡ true
above n e = grind (arith, nat_tests)

lasting : (moment : ℕ) (m : MessageValue) → IsLasting m → is_expired moment m ≡ false → lasts moment m ≡ true
lasting moment m z e = both (nat_lt 0 m.ask.terms.ttl) (not (is_expired moment m)) (above m.ask.terms.ttl z) (ap not e)

store_by_tidy : (moment : ℕ) (v : Verdict) (o : Op) (m : MessageValue) (c : Cell) → HasChannel m c.user → lasts moment m ≡ true → Tidy moment c → Tidy moment (store_by v o m c).cell
store_by_tidy moment Stays o m c k l h = staged_tidy moment o AtReread c h
store_by_tidy moment Older o m c k l h = ended_tidy moment 201 o c h
store_by_tidy moment Full o m c k l h = ended_tidy moment 503 o c h
store_by_tidy moment Joins o m c k l h = row_tidy moment m (with_stage o AtReread c) k l (staged_tidy moment o AtReread c h)

channel_there : (m : MessageValue) (t : Token) (c : Cell) → has_token m.chid t c.user ≡ true → HasChannel m c.user
channel_there m t c e =
    let a = among (λ x. is_channel m.chid x && is_token t x) (channels_of c.user) e in
    list_any-in (is_channel m.chid) a.one (channels_of c.user) a.member (and_left (is_channel m.chid a.one) (is_token t a.one) a.passes)

store_expired : (moment : ℕ) (o : Op) (f : FlightRow) (c : Cell) (b : Bool) → is_expired moment f.message ≡ b → HasChannel f.message c.user → IsLasting f.message → Tidy moment c →
    Tidy moment (if b then answered 201 o c else store_by (verdict f.message (rows_of c.user)) o f.message c).cell
store_expired moment o f c true e k l h = ended_tidy moment 201 o c h
store_expired moment o f c false e k l h =
    store_by_tidy moment (verdict f.message (rows_of c.user)) o f.message c k (lasting moment f.message l e) h

store_message_by : (moment : ℕ) (o : Op) (f : FlightRow) (c : Cell) (b : Bool) → has_token f.message.chid f.token c.user ≡ b → IsLasting f.message → Tidy moment c →
    Tidy moment (if b then (if is_expired moment f.message then answered 201 o c else store_by (verdict f.message (rows_of c.user)) o f.message c) else answered 410 o c).cell
store_message_by moment o f c true e l h = store_expired moment o f c (is_expired moment f.message) refl (channel_there f.message f.token c e) l h
store_message_by moment o f c false e l h = ended_tidy moment 410 o c h

store_at_tidy : (moment : ℕ) (p : Pool) (stage : Stage) (o : Op) (f : FlightRow) (c : Cell) → f.stage ≡ stage → In f c.flights → CellFacts p c → Tidy moment c →
    Tidy moment (store_at stage moment o f c).cell
store_at_tidy moment p AtStore o f c e i k h =
    store_message_by moment o f c (has_token f.message.chid f.token c.user) refl ((k.flights f i).lasting (subst IsStoring (sym e) tt)) h
store_at_tidy moment p _ o f c e i k h = h

store_of_tidy : (moment : ℕ) (p : Pool) (f : Option FlightRow) (o : Op) (c : Cell) → flight o c ≡ f → CellFacts p c → Tidy moment c → Tidy moment (store_of f moment o c).cell
store_of_tidy moment p None o c e k h = h
store_of_tidy moment p (Some f) o c e k h = store_at_tidy moment p f.stage o f c refl (find_in (is_flight o) f c.flights e) k h

pub store_tidy : (moment : ℕ) (p : Pool) (o : Op) (c : Cell) → CellFacts p c → Tidy moment c → Tidy moment (store moment o c).cell
store_tidy moment p o c k h = store_of_tidy moment p (flight o c) o c refl k h

-- ---- Nudge and Clear

nudge_at_tidy : (moment : ℕ) (stage : Stage) (o : Op) (c : Cell) → Tidy moment c → Tidy moment (nudge_at stage o c).cell
nudge_at_tidy moment (AtNudge n a) o c h =
    let x = find (is_attached_at n) c.sessions in
    staged_tidy moment o (AtToldNudge (is_some x) n a) (told n x c) (told_tidy moment n x c refl h)
nudge_at_tidy moment _ o c h = h

nudge_of_tidy : (moment : ℕ) (f : Option FlightRow) (o : Op) (c : Cell) → Tidy moment c → Tidy moment (nudge_of f o c).cell
nudge_of_tidy moment None o c h = h
nudge_of_tidy moment (Some f) o c h = nudge_at_tidy moment f.stage o c h

pub nudge_tidy : (moment : ℕ) (o : Op) (c : Cell) → Tidy moment c → Tidy moment (nudge o c).cell
nudge_tidy moment o c h = nudge_of_tidy moment (flight o c) o c h

cleared_tidy : (moment n a : ℕ) (c : Cell) → Tidy moment c → Tidy moment (record c { user = cleared_for n a c.user })
cleared_tidy moment n a c h = user_tidy moment c (cleared_for n a c.user) (cleared_fewer n a c.user) h

clear_at_tidy : (moment : ℕ) (stage : Stage) (o : Op) (c : Cell) → Tidy moment c → Tidy moment (clear_at stage o c).cell
clear_at_tidy moment (AtClear n a) o c h = let k = cleared_tidy moment n a c h in record { rows = k.rows; actors = k.actors }
clear_at_tidy moment _ o c h = h

clear_of_tidy : (moment : ℕ) (f : Option FlightRow) (o : Op) (c : Cell) → Tidy moment c → Tidy moment (clear_of f o c).cell
clear_of_tidy moment None o c h = h
clear_of_tidy moment (Some f) o c h = clear_at_tidy moment f.stage o c h

pub clear_tidy : (moment : ℕ) (o : Op) (c : Cell) → Tidy moment c → Tidy moment (clear o c).cell
clear_tidy moment o c h = clear_of_tidy moment (flight o c) o c h

-- ---- Close: the session becomes a saver

session_same : (n a : ℕ) (s : SessionKey) (x : Session) → is_session s x ≡ true → session_key n a x ≡ ((s.node == n) && (s.at == a))
session_same n a s x e =
    let p = same_number x.node s.node (and_left (x.node == s.node) (x.at == s.at) e) in
    let q = same_number x.at s.at (and_right (x.node == s.node) (x.at == s.at) e) in
    ap (λ y. (y == n) && (x.at == a)) p ∙ ap (λ y. (s.node == n) && (y == a)) q

close_of_tidy : (moment k : ℕ) (x : Option Session) (s : SessionKey) (c : Cell) → find (is_session s) c.sessions ≡ x → CareFacts c → Tidy moment c →
    Tidy moment (close_of x k s c).cell
close_of_tidy moment k None s c e r h = h
close_of_tidy moment k (Some x) s c e r h =
    let i = find_in (is_session s) x c.sessions e in
    let t = find_passes (is_session s) x c.sessions e in
    let v = record c { sessions = without_first (is_session s) c.sessions; savers = c.savers ++ new_saver x ∷ [] } in
    user_tidy moment v (touched k c.user) (touched_fewer k c.user)
    (record {
      rows = h.rows;
      actors =
          record {
            keys = λ n a.
                let b = (s.node == n) && (s.at == a) in
                let d = amount-moved (session_key n a) b (is_session s) c.sessions (λ y q. session_same n a s y q) (list_any-in (is_session s) x c.sessions i t) in
                let f = amount-snoc (saver_key n a) c.savers (new_saver x) in
                let g : one (saver_key n a (new_saver x)) ≡ one b = ap one (session_same n a s x t) in
                let l = h.actors.keys n a in
                omega (arith, d, f, g, l);
            sessions = λ y j. h.actors.sessions y (in-without_first (is_session s) y c.sessions j);
            savers = λ w j. elim (in-snoc w (new_saver x) c.savers j) [
              | inl l ↦ h.actors.savers w l
              | inr q ↦ subst (SaverBound c.user) (sym q) (record { within = r.sessions x i; bounded = h.actors.sessions x i })
            ];
          };
    })

pub close_tidy : (moment k : ℕ) (s : SessionKey) (c : Cell) → CareFacts c → Tidy moment c → Tidy moment (close k s c).cell
close_tidy moment k s c r h = close_of_tidy moment k (find (is_session s) c.sessions) s c refl r h

-- ---- Release

release_at_tidy : (moment : ℕ) (stage : Stage) (s : SessionKey) (c : Cell) → Tidy moment c → Tidy moment (release_at stage s c).cell
release_at_tidy moment AtSaving s c h = cleared_tidy moment s.node s.at c h
release_at_tidy moment _ s c h = h

release_of_tidy : (moment : ℕ) (v : Option Saver) (s : SessionKey) (c : Cell) → Tidy moment c → Tidy moment (release_of v s c).cell
release_of_tidy moment None s c h = h
release_of_tidy moment (Some v) s c h = release_at_tidy moment v.stage s c h

pub release_tidy : (moment : ℕ) (s : SessionKey) (c : Cell) → Tidy moment c → Tidy moment (release s c).cell
release_tidy moment s c h = release_of_tidy moment (saver s c) s c h

-- ---- SaveOne

left_tidy : (moment : ℕ) (s : SessionKey) (v : Saver) (m : MessageValue) (ms : List MessageValue) (c : Cell) → saver s c ≡ Some v → v.held ≡ m ∷ ms → Tidy moment c →
    Tidy moment (left s ms c)
left_tidy moment s v m ms c e q h =
    saver_tidy moment c (is_saver s) (with_held ms) v e (λ y. refl) (λ y. refl) (λ b. tail_bound m ms (subst IsBounded q b)) h

saved_tidy : (moment : ℕ) (s : SessionKey) (v : Saver) (m : MessageValue) (ms : List MessageValue) (c : Cell) → saver s c ≡ Some v → v.held ≡ m ∷ ms → Tidy moment c →
    Tidy moment (saved s m.id ms c)
saved_tidy moment s v m ms c e q h =
    saver_tidy moment c (is_saver s) (with_saved m.id ms) v e (λ y. refl) (λ y. refl) (λ b. tail_bound m ms (subst IsBounded q b)) h

save_by_tidy : (moment : ℕ) (d : Verdict) (s : SessionKey) (v : Saver) (m : MessageValue) (ms : List MessageValue) (c : Cell) → saver s c ≡ Some v → v.held ≡ m ∷ ms →
    HasChannel m c.user → lasts moment m ≡ true → Tidy moment c → Tidy moment (save_by d s m ms c).cell
save_by_tidy moment Stays s v m ms c e q k l h = saved_tidy moment s v m ms c e q h
save_by_tidy moment Older s v m ms c e q k l h = left_tidy moment s v m ms c e q h
save_by_tidy moment Full s v m ms c e q k l h = row_tidy moment m (saved s m.id ms c) k l (saved_tidy moment s v m ms c e q h)
save_by_tidy moment Joins s v m ms c e q k l h = row_tidy moment m (saved s m.id ms c) k l (saved_tidy moment s v m ms c e q h)

save_timely : (moment : ℕ) (s : SessionKey) (v : Saver) (m : MessageValue) (ms : List MessageValue) (c : Cell) (b : Bool) → is_expired moment m ≡ b →
    saver s c ≡ Some v → v.held ≡ m ∷ ms → HasChannel m c.user → IsLasting m → Tidy moment c →
    Tidy moment (if b then outcome (left s ms c) (Left m.id TooLate) else save_by (verdict m (rows_of c.user)) s m ms c).cell
save_timely moment s v m ms c true z e q k l h = left_tidy moment s v m ms c e q h
save_timely moment s v m ms c false z e q k l h = save_by_tidy moment (verdict m (rows_of c.user)) s v m ms c e q k (lasting moment m l z) h

save_lasting : (moment : ℕ) (s : SessionKey) (v : Saver) (m : MessageValue) (ms : List MessageValue) (c : Cell) (b : Bool) → (m.ask.terms.ttl == 0) ≡ b →
    saver s c ≡ Some v → v.held ≡ m ∷ ms → HasChannel m c.user → Tidy moment c →
    Tidy moment (if b then outcome (left s ms c) (Left m.id NoTtl) else (if is_expired moment m then outcome (left s ms c) (Left m.id TooLate) else save_by (verdict m (rows_of c.user)) s m ms c)).cell
save_lasting moment s v m ms c true z e q k h = left_tidy moment s v m ms c e q h
save_lasting moment s v m ms c false z e q k h = save_timely moment s v m ms c (is_expired moment m) refl e q k z h

save_channel : (moment : ℕ) (s : SessionKey) (v : Saver) (m : MessageValue) (ms : List MessageValue) (c : Cell) (b : Bool) →
    list_any (is_channel m.chid) (channels_of c.user) ≡ b → saver s c ≡ Some v → v.held ≡ m ∷ ms → Tidy moment c →
    Tidy moment (if not b then outcome (left s ms c) (Left m.id NoChannel) else (if m.ask.terms.ttl == 0 then outcome (left s ms c) (Left m.id NoTtl) else (if is_expired moment m then outcome (left s ms c) (Left m.id TooLate) else save_by (verdict m (rows_of c.user)) s m ms c))).cell
save_channel moment s v m ms c false k e q h = left_tidy moment s v m ms c e q h
save_channel moment s v m ms c true k e q h = save_lasting moment s v m ms c (m.ask.terms.ttl == 0) refl e q k h

save_held_tidy : (moment : ℕ) (s : SessionKey) (v : Saver) (ms : List MessageValue) (c : Cell) → saver s c ≡ Some v → v.held ≡ ms → Tidy moment c →
    Tidy moment (save_held ms moment s c).cell
save_held_tidy moment s v [] c e q h = saver_moved_tidy moment (saver_advance_of NothingHeld (saver s c)) s c h
save_held_tidy moment s v (m ∷ ms) c e q h = save_channel moment s v m ms c (list_any (is_channel m.chid) (channels_of c.user)) refl e q h

save_at_tidy : (moment : ℕ) (stage : Stage) (s : SessionKey) (v : Saver) (c : Cell) → saver s c ≡ Some v → Tidy moment c → Tidy moment (save_at stage v.held moment s c).cell
save_at_tidy moment AtSaving s v c e h = save_held_tidy moment s v v.held c e refl h
save_at_tidy moment _ s v c e h = h

save_of_tidy : (moment : ℕ) (v : Option Saver) (s : SessionKey) (c : Cell) → saver s c ≡ v → Tidy moment c → Tidy moment (save_of v moment s c).cell
save_of_tidy moment None s c e h = h
save_of_tidy moment (Some v) s c e h = save_at_tidy moment v.stage s v c e h

pub save_tidy : (moment : ℕ) (s : SessionKey) (c : Cell) → Tidy moment c → Tidy moment (save moment s c).cell
save_tidy moment s c h = save_of_tidy moment (saver s c) s c refl h

-- ---- the other steps of a saver

pub saver_event_tidy : (moment : ℕ) (event : Event) (s : SessionKey) (c : Cell) → Tidy moment c → Tidy moment (saver_step event s c).cell
saver_event_tidy moment event s c h = saver_moved_tidy moment (saver_advance_of event (saver s c)) s c h

pub saver_reread_tidy : (moment : ℕ) (s : SessionKey) (c : Cell) → Tidy moment c → Tidy moment (saver_reread s c).cell
saver_reread_tidy moment s c h = saver_moved_tidy moment (saver_advance_of (ReadPlace (routed_place c.user)) (saver s c)) s c h

saver_nudge_at_tidy : (moment : ℕ) (stage : Stage) (s : SessionKey) (c : Cell) → Tidy moment c → Tidy moment (saver_nudge_at stage s c).cell
saver_nudge_at_tidy moment (AtNudge n a) s c h =
    let x = find (is_attached_at n) c.sessions in
    saver_moved_tidy moment (Goes (AtToldNudge (is_some x) n a)) s (told n x c) (told_tidy moment n x c refl h)
saver_nudge_at_tidy moment _ s c h = h

saver_nudge_of_tidy : (moment : ℕ) (v : Option Saver) (s : SessionKey) (c : Cell) → Tidy moment c → Tidy moment (saver_nudge_of v s c).cell
saver_nudge_of_tidy moment None s c h = h
saver_nudge_of_tidy moment (Some v) s c h = saver_nudge_at_tidy moment v.stage s c h

pub saver_nudge_tidy : (moment : ℕ) (s : SessionKey) (c : Cell) → Tidy moment c → Tidy moment (saver_nudge s c).cell
saver_nudge_tidy moment s c h = saver_nudge_of_tidy moment (saver s c) s c h

saver_gone_tidy : (moment : ℕ) (s : SessionKey) (c : Cell) → Tidy moment c → Tidy moment (record c { savers = without_first (is_saver s) c.savers })
saver_gone_tidy moment s c h =
    savers_tidy moment c (without_first (is_saver s) c.savers) (λ n a. amount-without (saver_key n a) (is_saver s) c.savers)
    (λ v i. h.actors.savers v (in-without_first (is_saver s) v c.savers i)) h

saver_clear_at_tidy : (moment : ℕ) (stage : Stage) (s : SessionKey) (c : Cell) → Tidy moment c → Tidy moment (saver_clear_at stage s c).cell
saver_clear_at_tidy moment (AtClear n a) s c h =
    let v = record c { savers = without_first (is_saver s) c.savers } in
    user_tidy moment v (cleared_for n a c.user) (cleared_fewer n a c.user) (saver_gone_tidy moment s c h)
saver_clear_at_tidy moment _ s c h = h

saver_clear_of_tidy : (moment : ℕ) (v : Option Saver) (s : SessionKey) (c : Cell) → Tidy moment c → Tidy moment (saver_clear_of v s c).cell
saver_clear_of_tidy moment None s c h = h
saver_clear_of_tidy moment (Some v) s c h = saver_clear_at_tidy moment v.stage s c h

pub saver_clear_tidy : (moment : ℕ) (s : SessionKey) (c : Cell) → Tidy moment c → Tidy moment (saver_clear s c).cell
saver_clear_tidy moment s c h = saver_clear_of_tidy moment (saver s c) s c h
