-- Steps that bring, store or take away messages lose no nudge: Begin, Direct, Store, SaveOne, Close, Tick and Kill.
use Rattle.std.proofs.Common.{◌≡◌, ℕ, Bool, true, false, not, ◌⊎◌, inl, inr, List, [], ◌∷◌, ◌++◌, filter, length, refl, ◌∙◌, ap, sym, subst, arith}
use Rattle.std.specs.Prelude.{find, Option, Some, None, nat_lt, ◌==◌, ◌&&◌, ◌||◌, if◌then◌else◌}
use Rattle.std.specs.List.{list_any}
use Rattle.std.proofs.lemmas.Bool.Decides.{nat_tests}
use Rattle.push_model.specs.declared.ids.MsgId.{MsgId}
use Rattle.push_model.specs.declared.ids.Op.{Op}
use Rattle.push_model.specs.declared.ids.Token.{Token}
use Rattle.push_model.specs.declared.parts.FlightRow.{FlightRow}
use Rattle.push_model.specs.declared.parts.Row.{Row}
use Rattle.push_model.specs.declared.step.Fetch.{Fetch}
use Rattle.push_model.specs.declared.step.Fetch.TheVariants.{Idle, Topic, Plain}
use Rattle.push_model.specs.declared.step.Stage.{Stage}
use Rattle.push_model.specs.declared.step.Stage.TheVariants.{Direct as AtDirect, Told, Store as AtStore, Reread as AtReread, Nudge as AtNudge, ToldNudge as AtToldNudge, Clear as AtClear, Saving as AtSaving, Idle as AtIdle, Topic as AtTopic, Plain as AtPlain, Displaced as AtDisplaced}
use Rattle.push_model.specs.declared.advance.Event.TheVariants.{AllSaved as NothingHeld}
use Rattle.push_model.specs.declared.reply.Reason.TheVariants.{Channel as ChannelGone, Zero, Expired}
use Rattle.push_model.specs.declared.reply.Reply.TheVariants.{Begun, Here, NotHere, Left}
use Rattle.push_model.specs.Names.{is_same_id}
use Rattle.push_model.specs.SessionKey.{SessionKey}
use Rattle.push_model.specs.MessageValue.{MessageValue}
use Rattle.push_model.specs.Messages.{is_expired}
use Rattle.push_model.specs.Keyed.{with_first, without_first}
use Rattle.push_model.specs.Rows.{is_row, shares_topic, new_row, verdict}
use Rattle.push_model.specs.Sessions.{Session, given, is_session, is_attached_at}
use Rattle.push_model.specs.Cells.{Cell, User, Saver, rows_of, channels_of, is_channel, is_flight, is_saver, routed_place, has_token, with_stored}
use Rattle.push_model.specs.Advances.{at_stage, all_saved_advance}
use Rattle.push_model.specs.Outcomes.{outcome}
use Rattle.push_model.specs.FlightSteps.{with_flight, begin, begin_to, flight, with_stage, answered, can_give, with_given, direct, direct_of, direct_at, stored, store, store_of, store_at, store_by}
use Rattle.push_model.specs.SaverSteps.{saver, saver_moved, saver_advance_of, has_saved, new_saver, touched, close, close_of, with_held, with_saved, with_saver, left, saved, saved_row, save_held, save_at, save_of, save, save_by}
use Rattle.push_model.specs.NodeSteps.{is_told, leaves_orphan, is_left_orphan, orphaned, with_orphans, killed}
use Rattle.push_model.specs.ClockSteps.{without_due, ticked}
use Rattle.push_model.specs.Covering.{is_routed, fetch_covers, stage_covers, saver_covers}
use Rattle.push_model.proofs.Members.{In, true_not_false, in-snoc, in_last, list_any-in, in-append_left, in-filter, in_filter, from_map, in-without_first, with_first-keeps, with_first-has}
use Rattle.push_model.proofs.Marks.{and_left, and_right, both}
use Rattle.push_model.proofs.Single.{Single, NonePass, single-without_first, single-filter, single-map, single-snoc}
use Rattle.push_model.specs.declared.standing.Verdict.{Verdict}
use Rattle.push_model.specs.declared.standing.Verdict.TheVariants.{Stays, Older, Full, Joins}
use Rattle.push_model.proofs.Verdicts.{Means, means}
use Rattle.push_model.proofs.Care.{Minded, BySent, ByCheck, ByFetch, ByFlight, BySaver, ByMark, IsWithin, CareFacts, claims_care, user_care, fewer_care, sessions_care, flights_care, savers_care}
use Rattle.push_model.proofs.CareActors.{Passes, Stops, saver_stage_covers, stage_care, end_care, saver_stage_care, saver_end_care}
use Rattle.push_model.proofs.CareSessions.{idle_care, same_id, or_left, or_right}

-- ---- Begin: one more flight

flight_added_care : (o : Op) (t : Token) (m : MessageValue) (stage : Stage) (c : Cell) → CareFacts c → CareFacts (with_flight o t m stage c)
flight_added_care o t m stage c h =
    let y : FlightRow = record { op = o; message = m; token = t; stage = stage } in
    flights_care c (c.flights ++ y ∷ []) h (λ x i d r l f j k. ByFlight f (in-append_left f c.flights (y ∷ []) j) k)

begin_unkept_care : (o : Op) (t : Token) (m : MessageValue) (c : Cell) (b : Bool) → CareFacts c →
    CareFacts (if b then outcome c (Begun m.id None) else outcome (with_flight o t m AtStore c) (Begun m.id None)).cell
begin_unkept_care o t m c true h = h
begin_unkept_care o t m c false h = flight_added_care o t m AtStore c h

begin_to_care : (o : Op) (t : Token) (m : MessageValue) (c : Cell) (p : Option (ℕ × ℕ)) → CareFacts c → CareFacts (begin_to p o t m c).cell
begin_to_care o t m c (Some p) h = flight_added_care o t m (AtDirect p.0 p.1) c h
begin_to_care o t m c None h = begin_unkept_care o t m c (m.ask.terms.ttl == 0) h

pub begin_care : (o : Op) (t : Token) (m : MessageValue) (c : Cell) → CareFacts c → CareFacts (begin o t m c).cell
begin_care o t m c h = begin_to_care o t m c (routed_place c.user) h

-- ---- Direct

told_passes : (c : Cell) (f : FlightRow) (n a : ℕ) (b : Bool) → f.stage ≡ AtDirect n a → Passes stage_covers c f.stage (Told b)
told_passes c f n a b s = subst (λ z. Passes stage_covers c z (Told b)) (sym s) (λ x i d k. cc)

give_by : (n a : ℕ) (o : Op) (f : FlightRow) (x : Session) (c : Cell) (b : Bool) → CareFacts c → flight o c ≡ Some f → f.stage ≡ AtDirect n a →
    find (is_attached_at n) c.sessions ≡ Some x →
    CareFacts (if b then outcome (with_stage o (Told true) (with_given n f.message c)) (Here c.uaid) else outcome (with_stage o (Told false) c) NotHere).cell
give_by n a o f x c true h e s k =
    let v = with_given n f.message c in
    stage_care v o (Told true) f
    (idle_care c (is_attached_at n) (given f.message) x h k (record { node = λ y. refl; at = λ y. refl; displaced = λ y. refl }) refl refl refl) e
    (told_passes v f n a true s)
give_by n a o f x c false h e s k = stage_care c o (Told false) f h e (told_passes c f n a false s)

direct_beside : (n a moment : ℕ) (o : Op) (f : FlightRow) (c : Cell) (x : Option Session) → CareFacts c → flight o c ≡ Some f → f.stage ≡ AtDirect n a →
    find (is_attached_at n) c.sessions ≡ x →
    CareFacts (if can_give x moment f c.user then outcome (with_stage o (Told true) (with_given n f.message c)) (Here c.uaid) else outcome (with_stage o (Told false) c) NotHere).cell
direct_beside n a moment o f c None h e s k = stage_care c o (Told false) f h e (told_passes c f n a false s)
direct_beside n a moment o f c (Some x) h e s k = give_by n a o f x c (can_give (Some x) moment f c.user) h e s k

direct_at_care : (moment : ℕ) (o : Op) (f : FlightRow) (c : Cell) (stage : Stage) → CareFacts c → flight o c ≡ Some f → f.stage ≡ stage →
    CareFacts (direct_at stage moment o f c).cell
direct_at_care moment o f c (AtDirect n a) h e s = direct_beside n a moment o f c (find (is_attached_at n) c.sessions) h e s refl
direct_at_care moment o f c _ h e s = h

direct_of_care : (moment : ℕ) (o : Op) (c : Cell) (f : Option FlightRow) → CareFacts c → flight o c ≡ f → CareFacts (direct_of f moment o c).cell
direct_of_care moment o c None h e = h
direct_of_care moment o c (Some f) h e = direct_at_care moment o f c f.stage h e refl

pub direct_care : (moment : ℕ) (o : Op) (c : Cell) → CareFacts c → CareFacts (direct moment o c).cell
direct_care moment o c h = direct_of_care moment o c (flight o c) h refl

-- ---- a message becomes the last row

id_trans : (m : MsgId) (i : MsgId) (r : Row) → is_same_id m i ≡ true → is_row i r ≡ true → is_row m r ≡ true
id_trans m i r e s = grind (arith, nat_tests)

not_true : (b : Bool) → (b ≡ true → ⊥) → b ≡ false
not_true true f = absurd (f refl)
not_true false f = refl

fresh_none : (m : MessageValue) (i : MsgId) (rows : List Row) → list_any (is_row m.id) rows ≡ false → is_row i (new_row m) ≡ true → NonePass (is_row i) rows
fresh_none m i rows f e r j =
    not_true (is_row i r) (λ s. true_not_false (sym (list_any-in (is_row m.id) r rows j (id_trans m.id i r e s)) ∙ f))

stored_single : (m : MessageValue) (i : MsgId) (o : Option User) → list_any (is_row m.id) (rows_of o) ≡ false → Single (is_row i) (rows_of o) →
    Single (is_row i) (rows_of (with_stored m o))
stored_single m i None f d = d
stored_single m i (Some u) f d =
    let rows = without_first (shares_topic m) u.rows in
    single-snoc (is_row i) (new_row m) rows (single-without_first (is_row i) (shares_topic m) u.rows d)
    (λ e r j. fresh_none m i u.rows f e r (in-without_first (shares_topic m) r u.rows j))

stored_within : (m : MessageValue) (a : ℕ) (o : Option User) → IsWithin a o → IsWithin a (with_stored m o)
stored_within m a None w = w
stored_within m a (Some u) w = w

stored_routed : (m : MessageValue) (o : Option User) (x : Session) → is_routed (with_stored m o) x ≡ is_routed o x
stored_routed m None x = refl
stored_routed m (Some u) x = refl

stored_back : (m : MessageValue) (o : Option User) (r : Row) → In r (rows_of (with_stored m o)) → In r (rows_of o) ⊎ (r ≡ new_row m)
stored_back m None r j = inl j
stored_back m (Some u) r j =
    elim (in-snoc r (new_row m) (without_first (shares_topic m) u.rows) j) [ inl k ↦ inl (in-without_first (shares_topic m) r u.rows k) | inr q ↦ inr q ]

-- where it is new, and covered for each routed session
row_care : (m : MessageValue) (c : Cell) → CareFacts c → list_any (is_row m.id) (rows_of c.user) ≡ false →
    ((x : Session) → Minded c.flights c.savers x (new_row m)) → CareFacts (record c { user = with_stored m c.user })
row_care m c h f g =
    user_care c (with_stored m c.user) h (λ i. stored_single m i c.user f (h.rows i)) (λ a. stored_within m a c.user)
    (λ x i d r j. elim (stored_back m c.user r j) [
      | inl k ↦ h.minded x i (sym (stored_routed m c.user x) ∙ d) r k
      | inr q ↦ subst (Minded c.flights c.savers x) (sym q) (g x)
    ])

-- ---- Store: the flight is to read the route row again

reread_passes : (c : Cell) (f : FlightRow) → f.stage ≡ AtStore → Passes stage_covers c f.stage AtReread
reread_passes c f s = subst (λ z. Passes stage_covers c z AtReread) (sym s) (λ x i d k. cc)

store_stops : (c : Cell) (f : FlightRow) → f.stage ≡ AtStore → Stops stage_covers c f.stage
store_stops c f s = subst (Stops stage_covers c) (sym s) (λ x i d k. cc)

stored_care : (o : Op) (f : FlightRow) (c : Cell) → CareFacts c → flight o c ≡ Some f → f.stage ≡ AtStore →
    list_any (is_row f.message.id) (rows_of c.user) ≡ false → CareFacts (stored o f.message c).cell
stored_care o f c h e s d =
    let v = with_stage o AtReread c in
    row_care f.message v (stage_care c o AtReread f h e (reread_passes c f s)) d
    (λ x. ByFlight (at_stage AtReread f) (with_first-has (is_flight o) (at_stage AtReread) f c.flights e) (both (is_same_id f.message.id f.message.id) true (same_id f.message.id) refl))

answered_care : (code : ℕ) (o : Op) (f : FlightRow) (c : Cell) → CareFacts c → flight o c ≡ Some f → f.stage ≡ AtStore → CareFacts (answered code o c).cell
answered_care code o f c h e s = end_care c o f h e (store_stops c f s)

-- by the verdict
store_by_care : (o : Op) (f : FlightRow) (c : Cell) (v : Verdict) → CareFacts c → flight o c ≡ Some f → f.stage ≡ AtStore →
    Means f.message (rows_of c.user) v → CareFacts (store_by v o f.message c).cell
store_by_care o f c Stays h e s d = stage_care c o AtReread f h e (reread_passes c f s)
store_by_care o f c Older h e s d = answered_care 201 o f c h e s
store_by_care o f c Full h e s d = answered_care 503 o f c h e s
store_by_care o f c Joins h e s d = stored_care o f c h e s d.other

store_timely : (o : Op) (f : FlightRow) (c : Cell) (b : Bool) → CareFacts c → flight o c ≡ Some f → f.stage ≡ AtStore →
    CareFacts (if b then answered 201 o c else store_by (verdict f.message (rows_of c.user)) o f.message c).cell
store_timely o f c true h e s = answered_care 201 o f c h e s
store_timely o f c false h e s = store_by_care o f c (verdict f.message (rows_of c.user)) h e s (means f.message (rows_of c.user))

store_token : (moment : ℕ) (o : Op) (f : FlightRow) (c : Cell) (b : Bool) → CareFacts c → flight o c ≡ Some f → f.stage ≡ AtStore →
    CareFacts (if b then (if is_expired moment f.message then answered 201 o c else store_by (verdict f.message (rows_of c.user)) o f.message c) else answered 410 o c).cell
store_token moment o f c true h e s = store_timely o f c (is_expired moment f.message) h e s
store_token moment o f c false h e s = answered_care 410 o f c h e s

store_at_care : (moment : ℕ) (o : Op) (f : FlightRow) (c : Cell) (stage : Stage) → CareFacts c → flight o c ≡ Some f → f.stage ≡ stage →
    CareFacts (store_at stage moment o f c).cell
store_at_care moment o f c AtStore h e s = store_token moment o f c (has_token f.message.chid f.token c.user) h e s
store_at_care moment o f c _ h e s = h

store_of_care : (moment : ℕ) (o : Op) (c : Cell) (f : Option FlightRow) → CareFacts c → flight o c ≡ f → CareFacts (store_of f moment o c).cell
store_of_care moment o c None h e = h
store_of_care moment o c (Some f) h e = store_at_care moment o f c f.stage h e refl

pub store_care : (moment : ℕ) (o : Op) (c : Cell) → CareFacts c → CareFacts (store moment o c).cell
store_care moment o c h = store_of_care moment o c (flight o c) h refl

-- ---- Close: one more saver, which has saved nothing

touched_care : (moment : ℕ) (c : Cell) (o : Option User) → CareFacts c → c.user ≡ o → CareFacts (record c { user = touched moment o })
touched_care moment c None h e = subst (λ z. CareFacts (record c { user = z })) e h
touched_care moment c (Some u) h e =
    fewer_care c (touched moment (Some u)) h (λ i. subst (λ z. Single (is_row i) (rows_of z)) e (h.rows i)) (λ a w. subst (IsWithin a) e w)
    (λ x. sym (ap (λ z. is_routed z x) e)) (λ r j. subst (λ z. In r (rows_of z)) (sym e) j)

close_of_care : (moment : ℕ) (s : SessionKey) (c : Cell) (o : Option Session) → CareFacts c → CareFacts (close_of o moment s c).cell
close_of_care moment s c None h = h
close_of_care moment s c (Some x) h =
    let u = record c { user = touched moment c.user } in
    let one = touched_care moment c c.user h refl in
    let v = record u { sessions = without_first (is_session s) c.sessions } in
    let old : (y : Session) → In y v.sessions → In y c.sessions = λ y i. in-without_first (is_session s) y c.sessions i in
    let two = sessions_care u v.sessions one (λ n. single-without_first (is_attached_at n) (is_session s) c.sessions (h.alone n)) (λ y i. one.sessions y (old y i)) (λ y i. one.minded y (old y i)) in
    savers_care v (c.savers ++ new_saver x ∷ []) two (λ y i d r l w j k. BySaver w (in-append_left w c.savers (new_saver x ∷ []) j) k)

pub close_care : (moment : ℕ) (s : SessionKey) (c : Cell) → CareFacts c → CareFacts (close moment s c).cell
close_care moment s c h = close_of_care moment s c (find (is_session s) c.sessions) h

-- ---- SaveOne: what a saver saved it covers until it has read the route row again

-- a saver that goes on saving, and has saved no less
record SavesOn (v w : Saver) : Type 0 where
  stage : w.stage ≡ v.stage
  saved : (i : MsgId) → list_any (λ j. is_same_id j i) v.saved ≡ true → list_any (λ j. is_same_id j i) w.saved ≡ true

saves_on : (v w : Saver) (x : Session) (r : Row) → SavesOn v w → saver_covers x r v ≡ true → saver_covers x r w ≡ true
saves_on v w x r g k =
    let has = list_any (λ i. is_same_id i r.message.id) v.saved in
    both (list_any (λ i. is_same_id i r.message.id) w.saved) (saver_stage_covers w.stage x) (g.saved r.message.id (and_left has (saver_stage_covers v.stage x) k))
    (ap (λ z. saver_stage_covers z x) g.stage ∙ and_right has (saver_stage_covers v.stage x) k)

saver_on : (c : Cell) (s : SessionKey) (f : Saver → Saver) (v y : Saver) (x : Session) (r : Row) → saver s c ≡ Some v → SavesOn v (f v) →
    saver_covers x r y ≡ true → In y (with_first (is_saver s) f c.savers) ⊎ (y ≡ v) → Minded c.flights (with_first (is_saver s) f c.savers) x r
saver_on c s f v y x r e g k (inl j) = BySaver y j k
saver_on c s f v y x r e g k (inr q) =
    BySaver (f v) (with_first-has (is_saver s) f v c.savers e) (saves_on v (f v) x r g (ap (saver_covers x r) (sym q) ∙ k))

saver_care : (c : Cell) (s : SessionKey) (f : Saver → Saver) (v : Saver) → CareFacts c → saver s c ≡ Some v → SavesOn v (f v) → CareFacts (with_saver s f c)
saver_care c s f v h e g =
    savers_care c (with_first (is_saver s) f c.savers) h
    (λ x i d r l y j k. saver_on c s f v y x r e g k (with_first-keeps (is_saver s) f y v c.savers e j))

left_care : (s : SessionKey) (v : Saver) (ms : List MessageValue) (c : Cell) → CareFacts c → saver s c ≡ Some v → CareFacts (left s ms c)
left_care s v ms c h e = saver_care c s (with_held ms) v h e (record { stage = refl; saved = λ i k. k })

saved_longer : (i k : MsgId) (is : List MsgId) → list_any (λ j. is_same_id j i) is ≡ true → list_any (λ j. is_same_id j i) (is ++ k ∷ []) ≡ true
saved_longer i k [] e = cc
saved_longer i k (j ∷ is) e = more (is_same_id j i) e (saved_longer i k is)
  where
    more : (b : Bool) → (b || list_any (λ j. is_same_id j i) is) ≡ true → (list_any (λ j. is_same_id j i) is ≡ true → list_any (λ j. is_same_id j i) (is ++ k ∷ []) ≡ true) →
        (b || list_any (λ j. is_same_id j i) (is ++ k ∷ [])) ≡ true
    more true e f = refl
    more false e f = f e

saved_last : (k : MsgId) (is : List MsgId) → list_any (λ j. is_same_id j k) (is ++ k ∷ []) ≡ true
saved_last k is = list_any-in (λ j. is_same_id j k) k (is ++ k ∷ []) (in_last k is) (same_id k)

saved_care : (s : SessionKey) (v : Saver) (k : MsgId) (ms : List MessageValue) (c : Cell) → CareFacts c → saver s c ≡ Some v → CareFacts (saved s k ms c)
saved_care s v k ms c h e = saver_care c s (with_saved k ms) v h e (record { stage = refl; saved = λ i q. saved_longer i k v.saved q })

saved_row_care : (s : SessionKey) (v : Saver) (m : MessageValue) (ms : List MessageValue) (c : Cell) → CareFacts c → saver s c ≡ Some v → v.stage ≡ AtSaving →
    list_any (is_row m.id) (rows_of c.user) ≡ false → CareFacts (saved_row s m ms c).cell
saved_row_care s v m ms c h e q d =
    row_care m (saved s m.id ms c) (saved_care s v m.id ms c h e) d
    (λ x. BySaver (with_saved m.id ms v) (with_first-has (is_saver s) (with_saved m.id ms) v c.savers e)
    (both (list_any (λ i. is_same_id i m.id) (v.saved ++ m.id ∷ [])) (saver_stage_covers v.stage x) (saved_last m.id v.saved) (ap (λ z. saver_stage_covers z x) q)))

-- by the verdict
save_by_care : (s : SessionKey) (v : Saver) (m : MessageValue) (ms : List MessageValue) (c : Cell) (x : Verdict) → CareFacts c → saver s c ≡ Some v →
    v.stage ≡ AtSaving → Means m (rows_of c.user) x → CareFacts (save_by x s m ms c).cell
save_by_care s v m ms c Stays h e q d = saved_care s v m.id ms c h e
save_by_care s v m ms c Older h e q d = left_care s v ms c h e
save_by_care s v m ms c Full h e q d = saved_row_care s v m ms c h e q d.other
save_by_care s v m ms c Joins h e q d = saved_row_care s v m ms c h e q d.other

message_care : (s : SessionKey) (v : Saver) (m : MessageValue) (ms : List MessageValue) (c : Cell) (gone zero due : Bool) → CareFacts c → saver s c ≡ Some v →
    v.stage ≡ AtSaving →
    CareFacts (if gone then outcome (left s ms c) (Left m.id ChannelGone) else if zero then outcome (left s ms c) (Left m.id Zero) else if due then outcome (left s ms c) (Left m.id Expired) else save_by (verdict m (rows_of c.user)) s m ms c).cell
message_care s v m ms c true zero due h e q = left_care s v ms c h e
message_care s v m ms c false true due h e q = left_care s v ms c h e
message_care s v m ms c false false true h e q = left_care s v ms c h e
message_care s v m ms c false false false h e q = save_by_care s v m ms c (verdict m (rows_of c.user)) h e q (means m (rows_of c.user))

some_saved : (i : MsgId) (is : List MsgId) → nat_lt 0 (length (i ∷ is)) ≡ true
some_saved i is = grind (arith, nat_tests)

-- where nothing was saved it covers nothing
all_saved_by : (s : SessionKey) (v : Saver) (c : Cell) (is : List MsgId) → CareFacts c → saver s c ≡ Some v → v.stage ≡ AtSaving → v.saved ≡ is →
    CareFacts (saver_moved (all_saved_advance (nat_lt 0 (length is)) AtSaving) s c)
all_saved_by s v c [] h e q k =
    saver_end_care c s v h e (λ x i d r a t. absurd (true_not_false (sym a ∙ ap (λ z. list_any (λ j. is_same_id j r.message.id) z) k)))
all_saved_by s v c (i ∷ is) h e q k =
    subst (λ b. CareFacts (saver_moved (all_saved_advance b AtSaving) s c)) (sym (some_saved i is)) (saver_stage_care c s AtReread v h e (λ x j d t. inl refl))

all_saved_care : (s : SessionKey) (v : Saver) (c : Cell) → CareFacts c → saver s c ≡ Some v → v.stage ≡ AtSaving →
    CareFacts (saver_moved (saver_advance_of NothingHeld (saver s c)) s c)
all_saved_care s v c h e q =
    subst (λ o. CareFacts (saver_moved (saver_advance_of NothingHeld o) s c)) (sym e)
    (subst (λ z. CareFacts (saver_moved (all_saved_advance (has_saved v) z) s c)) (sym q) (all_saved_by s v c v.saved h e q refl))

save_held_care : (moment : ℕ) (s : SessionKey) (v : Saver) (c : Cell) (ms : List MessageValue) → CareFacts c → saver s c ≡ Some v → v.stage ≡ AtSaving →
    CareFacts (save_held ms moment s c).cell
save_held_care moment s v c [] h e q = all_saved_care s v c h e q
save_held_care moment s v c (m ∷ ms) h e q =
    message_care s v m ms c (not (list_any (is_channel m.chid) (channels_of c.user))) (m.ask.terms.ttl == 0) (is_expired moment m) h e q

save_at_care : (moment : ℕ) (s : SessionKey) (v : Saver) (c : Cell) (stage : Stage) → CareFacts c → saver s c ≡ Some v → v.stage ≡ stage →
    CareFacts (save_at stage v.held moment s c).cell
save_at_care moment s v c AtSaving h e q = save_held_care moment s v c v.held h e q
save_at_care moment s v c _ h e q = h

save_of_care : (moment : ℕ) (s : SessionKey) (c : Cell) (v : Option Saver) → CareFacts c → saver s c ≡ v → CareFacts (save_of v moment s c).cell
save_of_care moment s c None h e = h
save_of_care moment s c (Some v) h e = save_at_care moment s v c v.stage h e refl

pub save_care : (moment : ℕ) (s : SessionKey) (c : Cell) → CareFacts c → CareFacts (save moment s c).cell
save_care moment s c h = save_of_care moment s c (saver s c) h refl

-- ---- Tick: there are fewer rows

due_within : (moment a : ℕ) (o : Option User) → IsWithin a o → IsWithin a (without_due moment o)
due_within moment a None w = w
due_within moment a (Some u) w = w

due_routed : (moment : ℕ) (o : Option User) (x : Session) → is_routed (without_due moment o) x ≡ is_routed o x
due_routed moment None x = refl
due_routed moment (Some u) x = refl

due_single : (moment : ℕ) (i : MsgId) (o : Option User) → Single (is_row i) (rows_of o) → Single (is_row i) (rows_of (without_due moment o))
due_single moment i None d = d
due_single moment i (Some u) d = single-filter (is_row i) (λ r. not (is_expired moment r.message)) u.rows d

due_back : (moment : ℕ) (o : Option User) (r : Row) → In r (rows_of (without_due moment o)) → In r (rows_of o)
due_back moment None r j = j
due_back moment (Some u) r j = in-filter (λ y. not (is_expired moment y.message)) r u.rows j

pub ticked_care : (moment : ℕ) (c : Cell) → CareFacts c → CareFacts (ticked moment c)
ticked_care moment c h =
    fewer_care c (without_due moment c.user) h (λ i. due_single moment i c.user (h.rows i)) (λ a. due_within moment a c.user) (due_routed moment c.user) (due_back moment c.user)

-- ---- Kill: the rows that a saver on the node covered are orphans

orphan_within : (n a : ℕ) (vs : List Saver) (o : Option User) → IsWithin a o → IsWithin a (with_orphans n vs o)
orphan_within n a vs None w = w
orphan_within n a vs (Some u) w = w

orphan_routed : (n : ℕ) (vs : List Saver) (o : Option User) (x : Session) → is_routed (with_orphans n vs o) x ≡ is_routed o x
orphan_routed n vs None x = refl
orphan_routed n vs (Some u) x = refl

orphan_single : (n : ℕ) (vs : List Saver) (i : MsgId) (o : Option User) → Single (is_row i) (rows_of o) → Single (is_row i) (rows_of (with_orphans n vs o))
orphan_single n vs i None d = d
orphan_single n vs i (Some u) d = single-map (is_row i) (orphaned n vs) u.rows (λ r e. e) d

-- a row, marked where it is left
orphan_back : (n : ℕ) (vs : List Saver) (o : Option User) (r : Row) → In r (rows_of (with_orphans n vs o)) → (y : Row) × In y (rows_of o) × (r ≡ orphaned n vs y)
orphan_back n vs None r j = elim j [ ]
orphan_back n vs (Some u) r j = from_map (orphaned n vs) r u.rows j

marked_fetch : (fetch : Fetch) (n : ℕ) (vs : List Saver) (r : Row) → fetch_covers fetch r ≡ fetch_covers fetch (orphaned n vs r)
marked_fetch Idle n vs r = refl
marked_fetch Topic n vs r = refl
marked_fetch Plain n vs r = refl

marked_minded : (fs : List FlightRow) (ws : List Saver) (n : ℕ) (vs : List Saver) (x : Session) (r : Row) → Minded fs ws x r → Minded fs ws x (orphaned n vs r)
marked_minded fs ws n vs x r (BySent h) = BySent h
marked_minded fs ws n vs x r (ByCheck h) = ByCheck h
marked_minded fs ws n vs x r (ByFetch h) = ByFetch (sym (marked_fetch x.fetch n vs r) ∙ h)
marked_minded fs ws n vs x r (ByFlight f i h) = ByFlight f i h
marked_minded fs ws n vs x r (BySaver v i h) = BySaver v i h
marked_minded fs ws n vs x r (ByMark h) = ByMark (or_left r.orphan (is_left_orphan n vs r) h)

told_covers : (stage : Stage) (x : Session) → saver_stage_covers stage x ≡ true → not (is_told stage) ≡ true
told_covers (AtToldNudge b n a) x k = cc
told_covers (AtDirect n a) x k = refl
told_covers (Told b) x k = refl
told_covers AtStore x k = refl
told_covers AtReread x k = refl
told_covers (AtNudge n a) x k = refl
told_covers (AtClear n a) x k = refl
told_covers AtSaving x k = refl
told_covers AtIdle x k = refl
told_covers AtTopic x k = refl
told_covers AtPlain x k = refl
told_covers AtDisplaced x k = refl

gone_minded : (n : ℕ) (fs : List FlightRow) (vs ws : List Saver) (v : Saver) (x : Session) (r : Row) (b : Bool) → In v vs → saver_covers x r v ≡ true →
    (v.node == n) ≡ b → (not b ≡ true → In v ws) → Minded fs ws x (orphaned n vs r)
gone_minded n fs vs ws v x r true i k e f =
    let has = list_any (λ j. is_same_id j r.message.id) v.saved in
    let told = told_covers v.stage x (and_right has (saver_stage_covers v.stage x) k) in
    let leaves = both (v.node == n) (not (is_told v.stage) && has) e (both (not (is_told v.stage)) has told (and_left has (saver_stage_covers v.stage x) k)) in
    ByMark (or_right r.orphan (is_left_orphan n vs r) (list_any-in (leaves_orphan n r) v vs i leaves))
gone_minded n fs vs ws v x r false i k e f = BySaver v (f refl) k

pub killed_care : (n : ℕ) (c : Cell) → CareFacts c → CareFacts (killed n c)
killed_care n c h =
    let o = with_orphans n c.savers c.user in
    let u = record c { user = o } in
    let one = user_care c o h (λ i. orphan_single n c.savers i c.user (h.rows i)) (λ a. orphan_within n a c.savers c.user)
    (λ x i d r j. let y = orphan_back n c.savers c.user r j in subst (Minded c.flights c.savers x) (sym y.2)
    (marked_minded c.flights c.savers n c.savers x y.0 (h.minded x i (sym (orphan_routed n c.savers c.user x) ∙ d) y.0 y.1))) in
    let ws = filter (λ v. not (v.node == n)) c.savers in
    let two = savers_care u ws one (λ x i d r l v j k. let y = orphan_back n c.savers c.user r l in
    subst (Minded c.flights ws x) (sym y.2) (gone_minded n c.flights c.savers ws v x y.0 (v.node == n) j (ap (λ z. saver_covers x z v) (sym y.2) ∙ k) refl
    (λ e. in_filter (λ z. not (z.node == n)) v c.savers j e))) in
    let w = record u { savers = ws } in
    let ks = filter (λ k. not (k.node == n)) c.claims in
    let three = claims_care w ks two (λ k i. two.claims k (in-filter (λ z. not (z.node == n)) k c.claims i)) in
    let xs = filter (λ x. not (x.node == n)) c.sessions in
    let old : (x : Session) → In x xs → In x c.sessions = λ x i. in-filter (λ z. not (z.node == n)) x c.sessions i in
    sessions_care (record w { claims = ks }) xs three (λ m. single-filter (is_attached_at m) (λ x. not (x.node == n)) c.sessions (h.alone m))
    (λ x i. three.sessions x (old x i)) (λ x i. three.minded x (old x i))
