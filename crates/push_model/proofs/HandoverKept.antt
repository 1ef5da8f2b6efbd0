-- The steps of a handover on one user keep pool and world in step.
use Rattle.std.proofs.Common.{◌≡◌, ℕ, Bool, true, false, ◌⊎◌, inl, inr, List, [], ◌∷◌, ◌++◌, refl, ◌∙◌, ap, sym, subst}
use Rattle.std.specs.Prelude.{map, find, Option, Some, None, is_some, nat_lt, if◌then◌else◌}
use Rattle.std.specs.List.{list_any}
use Rattle.push_model.specs.declared.ids.Uaid.{Uaid}
use Rattle.push_model.specs.declared.ids.Op.{Op}
use Rattle.push_model.specs.declared.parts.FlightRow.{FlightRow}
use Rattle.push_model.specs.declared.step.Stage.{Stage}
use Rattle.push_model.specs.declared.step.Stage.TheVariants.{Clear as AtClear, Saving as AtSaving}
use Rattle.push_model.specs.declared.reply.Reply.{Reply}
use Rattle.push_model.specs.declared.reply.Reply.TheVariants.{Claimed, Stale, NoSession, Renewed, Kept}
use Rattle.push_model.specs.SessionKey.{SessionKey}
use Rattle.push_model.specs.MessageValue.{MessageValue}
use Rattle.push_model.specs.Keyed.{with_first, without_first}
use Rattle.push_model.specs.Sessions.{Session, held, is_session, is_attached, is_attached_at, checked}
use Rattle.push_model.specs.Cells.{Cell, User, Saver, rows_of, channels_of, is_channel, is_routed_to, unrouted, cleared_for}
use Rattle.push_model.specs.Outcomes.{outcome}
use Rattle.push_model.specs.UserSteps.{new_claim, claim, claim_of, claimed_user}
use Rattle.push_model.specs.SessionSteps.{attached, with_session, renew, renewed, is_renewable}
use Rattle.push_model.specs.FlightSteps.{flight, without_flight, clear, clear_of, clear_at}
use Rattle.push_model.specs.SaverSteps.{saver, saver_clear, saver_clear_of, saver_clear_at, new_saver, touched, close, close_of, release, release_of, release_at}
use Rattle.push_model.specs.NodeSteps.{notif}
use Rattle.push_model.specs.Worlds.{World, on_cell, on_flight}
use Rattle.push_model.specs.Pools.{Pool, PoolStep, after, after_all}
use Rattle.push_model.specs.Images.{flight_events}
use Rattle.push_model.proofs.Members.{In, find_in, in-snoc, in_last, in-append_left, in-without_first, without_first-keeps}
use Rattle.push_model.proofs.Reasons.{HasReason}
use Rattle.push_model.proofs.CellFacts.{number, IsRow, IsHeld, IsSaved, IsCopy, SaverFacts, CellFacts, IsLate}
use Rattle.push_model.proofs.InStep.{InStep, Stepped, numbered, copy_numbered, has_number}
use Rattle.push_model.proofs.Lift.{Owes, Changed, on_user, its_flight, quiet_owes, same_changed, same_owes}
use Rattle.push_model.proofs.Changes.{changed_trans, claims_changed, user_changed, sessions_changed, session_changed, savers_changed, copies_now}
use Rattle.push_model.proofs.JoinKept.{unmarked_rows, unmarked_channels}
use Rattle.push_model.proofs.AdvanceKept.{row_stored, end_owes, end_events, events_there}
use Rattle.push_model.proofs.NudgeKept.{told_by}
use Rattle.push_model.proofs.SaverKept.{past, ended_changed}

-- ---- the route row alone

-- the rows' messages and the channels stay
route_changed : (q : Pool) (c : Cell) (o : Option User) → CellFacts q c → map (λ r. r.message) (rows_of o) ≡ map (λ r. r.message) (rows_of c.user) →
    channels_of o ≡ channels_of c.user → (is_some c.user ≡ true → is_some o ≡ true) → Changed q c (record c { user = o })
route_changed q c o h e d t =
    let back : (m : MessageValue) → IsRow m o → IsRow m c.user = λ m i. subst (In m) e i in
    user_changed q c o h
    (record { own = λ m i. h.user.own m (back m i); kept = λ m i. h.user.kept m (back m i); subscribed = λ k i. h.user.subscribed k (subst (In k) d i) })
    (λ m i. inl (inl (back m i))) (λ k i. subst (λ ks. list_any (is_channel k) ks ≡ true) (sym d) i) (λ m i. inl (subst (In m) (sym e) i)) t

claim_by : (q : Pool) (moment : ℕ) (s : SessionKey) (u : User) (c : Cell) (b : Bool) → CellFacts q c → c.user ≡ Some u →
    Changed q c (if b then outcome (record c { user = Some (claimed_user moment s u); claims = c.claims ++ new_claim s ∷ [] }) (Claimed u.route.node) else outcome c (Stale u.route.at)).cell
claim_by q moment s u c false h e = same_changed q c h
claim_by q moment s u c true h e =
    let o : Option User = Some (claimed_user moment s u) in
    let x = record c { user = o } in
    let one = route_changed q c o h (ap (λ z. map (λ r. r.message) (rows_of z)) (sym e)) (ap channels_of (sym e)) (λ k. refl) in
    changed_trans q c x (record x { claims = c.claims ++ new_claim s ∷ [] }) one (claims_changed q x (c.claims ++ new_claim s ∷ []) one.facts (λ k i. refl))

claim_changed : (q : Pool) (moment : ℕ) (s : SessionKey) (c : Cell) (o : Option User) → CellFacts q c → c.user ≡ o → Changed q c (claim_of o moment s c).cell
claim_changed q moment s c None h e = same_changed q c h
claim_changed q moment s c (Some u) h e = claim_by q moment s u c (nat_lt u.route.at s.at) h e

abbrev None_events : Reply → List PoolStep
None_events r = []

pub claim_kept : (p : Pool) (w : World) (s : SessionKey) → InStep p w → Stepped p [] (on_cell w s.uaid (claim w.clock s)).0
claim_kept p w s h =
    on_user p w s.uaid (claim w.clock s) None_events h (λ c m. quiet_owes p w.next c _ (claim_changed p w.clock s c c.user m.facts refl))

unrouted_rows : (o : Option User) → map (λ r. r.message) (rows_of (unrouted o)) ≡ map (λ r. r.message) (rows_of o)
unrouted_rows None = refl
unrouted_rows (Some u) = refl

unrouted_channels : (o : Option User) → channels_of (unrouted o) ≡ channels_of o
unrouted_channels None = refl
unrouted_channels (Some u) = refl

unrouted_there : (o : Option User) → is_some o ≡ true → is_some (unrouted o) ≡ true
unrouted_there None e = e
unrouted_there (Some u) e = refl

cleared_by : (q : Pool) (c : Cell) (b : Bool) → CellFacts q c → Changed q c (record c { user = if b then unrouted c.user else c.user })
cleared_by q c true h = route_changed q c (unrouted c.user) h (unrouted_rows c.user) (unrouted_channels c.user) (unrouted_there c.user)
cleared_by q c false h = same_changed q c h

cleared : (q : Pool) (n a : ℕ) (c : Cell) → CellFacts q c → Changed q c (record c { user = cleared_for n a c.user })
cleared q n a c h = cleared_by q c (is_routed_to n a c.user) h

-- ---- what is owed, and then a change

copy_or : (q : Pool) (x v : Cell) (m : MessageValue) → ((m : MessageValue) → IsCopy m x → IsCopy m v ⊎ HasReason q (number m)) → IsCopy m x ⊎ HasReason q (number m) →
    IsCopy m v ⊎ HasReason q (number m)
copy_or q x v m f (inl i) = f m i
copy_or q x v m f (inr r) = inr r

number_or : (q : Pool) (x v : Cell) (n : ℕ) → ((m : MessageValue) → IsCopy m x → IsCopy m v ⊎ HasReason q (number m)) → has_number n x ≡ true →
    (has_number n v ≡ true) ⊎ HasReason q n
number_or q x v n f h =
    let m = numbered n x h in
    elim (f m.message m.copy) [
      | inl j ↦ inl (subst (λ k. has_number k v ≡ true) m.same (copy_numbered m.message v j))
      | inr r ↦ inr (subst (HasReason q) m.same r)
    ]

owes_then : (p : Pool) (next after : ℕ) (c x v : Cell) (es : List PoolStep) → Owes p next after c x es → Changed (after_all es p) x v → Owes p next after c v es
owes_then p next after c x v es o g =
    let q = after_all es p in
    record {
      meets = o.meets;
      grew = o.grew;
      above = o.above;
      fresh = λ n l. elim (o.fresh n l) [ inl a ↦ inl a | inr a ↦ inr (elim a [ inl b ↦ number_or q x v n g.excused b | inr r ↦ inr r ]) ];
      same = g.same ∙ o.same;
      facts = g.facts;
      excused = λ m i. copy_or q x v m g.excused (o.excused m i);
    }

-- ---- Clear

clear_staged : (p : Pool) (next : ℕ) (o : Op) (f : FlightRow) (c : Cell) (stage : Stage) → CellFacts p c → flight o c ≡ Some f → f.stage ≡ stage →
    Owes p next next c (clear_at stage o c).cell (end_events (Some f) (clear_at stage o c).reply)
clear_staged p next o f c (AtClear n a) h e s =
    let i = find_in _ f c.flights e in
    let k = (copies_now p c f h i).kept ((h.flights f i).late (subst IsLate (sym s) tt)) in
    let x = without_flight o c in
    let one = end_owes p next 201 o f c h e (inl (row_stored p c f.message k)) in
    owes_then p next next c x (without_flight o (record c { user = cleared_for n a c.user })) _ one (cleared _ n a x one.facts)
clear_staged p next o f c _ h e s = same_owes p next c h

clear_owes : (p : Pool) (next : ℕ) (o : Op) (c : Cell) (f : Option FlightRow) → CellFacts p c → flight o c ≡ f →
    Owes p next next c (clear_of f o c).cell (end_events f (clear_of f o c).reply)
clear_owes p next o c None h e = same_owes p next c h
clear_owes p next o c (Some f) h e = clear_staged p next o f c f.stage h e refl

pub clear_kept : (p : Pool) (w : World) (o : Op) → InStep p w → Stepped p (flight_events w o (on_flight w o (clear o)).1) (on_flight w o (clear o)).0
clear_kept p w o h =
    its_flight p w o (clear o) (flight_events w o) h refl
    (λ e s k. subst (Owes p w.next w.next e.1 (clear o e.1).cell) (events_there w o e (clear o e.1).reply s) (clear_owes p w.next o e.1 (flight o e.1) k refl))

saver_clear_staged : (q : Pool) (s : SessionKey) (v : Saver) (c : Cell) (stage : Stage) → CellFacts q c → saver s c ≡ Some v → v.stage ≡ stage →
    Changed q c (saver_clear_at stage s c).cell
saver_clear_staged q s v c (AtClear n a) h e k =
    let x = record c { user = cleared_for n a c.user } in
    let one = cleared q n a c h in
    changed_trans q c x _ one (ended_changed q x s v one.facts e (past q x s v one.facts e (λ t. let w = sym k ∙ t in cc)))
saver_clear_staged q s v c _ h e k = same_changed q c h

saver_clear_changed : (q : Pool) (s : SessionKey) (c : Cell) (v : Option Saver) → CellFacts q c → saver s c ≡ v → Changed q c (saver_clear_of v s c).cell
saver_clear_changed q s c None h e = same_changed q c h
saver_clear_changed q s c (Some v) h e = saver_clear_staged q s v c v.stage h e refl

pub saver_clear_kept : (p : Pool) (w : World) (s : SessionKey) → InStep p w → Stepped p [] (on_cell w s.uaid (saver_clear s)).0
saver_clear_kept p w s h =
    on_user p w s.uaid (saver_clear s) None_events h (λ c m. quiet_owes p w.next c _ (saver_clear_changed p s c (saver s c) m.facts refl))

-- ---- Release, Notif and Renew

release_staged : (q : Pool) (s : SessionKey) (c : Cell) (stage : Stage) → CellFacts q c → Changed q c (release_at stage s c).cell
release_staged q s c AtSaving h = cleared q s.node s.at c h
release_staged q s c _ h = same_changed q c h

release_changed : (q : Pool) (s : SessionKey) (c : Cell) (v : Option Saver) → CellFacts q c → Changed q c (release_of v s c).cell
release_changed q s c None h = same_changed q c h
release_changed q s c (Some v) h = release_staged q s c v.stage h

pub release_kept : (p : Pool) (w : World) (s : SessionKey) → InStep p w → Stepped p [] (on_cell w s.uaid (release s)).0
release_kept p w s h =
    on_user p w s.uaid (release s) None_events h (λ c m. quiet_owes p w.next c _ (release_changed p s c (saver s c) m.facts))

pub notif_kept : (p : Pool) (w : World) (n : ℕ) (u : Uaid) → InStep p w → Stepped p [] (on_cell w u (notif n)).0
notif_kept p w n u h =
    on_user p w u (notif n) None_events h (λ c m. quiet_owes p w.next c _ (told_by p n c (find (is_attached_at n) c.sessions) m.facts refl))

renewed_rows : (moment : ℕ) (s : SessionKey) (o : Option User) → map (λ r. r.message) (rows_of (renewed moment s o)) ≡ map (λ r. r.message) (rows_of o)
renewed_rows moment s None = refl
renewed_rows moment s (Some u) = unmarked_rows (Some (claimed_user moment s u))

renewed_channels : (moment : ℕ) (s : SessionKey) (o : Option User) → channels_of (renewed moment s o) ≡ channels_of o
renewed_channels moment s None = refl
renewed_channels moment s (Some u) = unmarked_channels (Some (claimed_user moment s u))

renewed_there : (moment : ℕ) (s : SessionKey) (o : Option User) → is_some o ≡ true → is_some (renewed moment s o) ≡ true
renewed_there moment s None e = e
renewed_there moment s (Some u) e = refl

checked_changed : (q : Pool) (c : Cell) (t : Session → Bool) (x : Session) → CellFacts q c → find t c.sessions ≡ Some x →
    Changed q c (record c { sessions = with_first t checked c.sessions })
checked_changed q c t x h e =
    let i = find_in t x c.sessions e in
    let f = h.sessions x i in
    session_changed q c t checked x h e (record { own = f.own; direct = f.direct; sent = f.sent }) (λ m j. inl (inr (inl (x, i, j)))) (λ m j. inl j)

renew_by : (q : Pool) (moment : ℕ) (s : SessionKey) (c : Cell) (x : Session) (b : Bool) → CellFacts q c → attached s c ≡ Some x →
    Changed q c (if b then outcome (record (with_session s checked c) { user = renewed moment s c.user }) Renewed else outcome c Kept).cell
renew_by q moment s c x false h e = same_changed q c h
renew_by q moment s c x true h e =
    let y = with_session s checked c in
    let one = checked_changed q c (is_attached s) x h e in
    changed_trans q c y (record y { user = renewed moment s c.user }) one
    (route_changed q y (renewed moment s c.user) one.facts (renewed_rows moment s c.user) (renewed_channels moment s c.user) (renewed_there moment s c.user))

renew_changed : (q : Pool) (moment : ℕ) (s : SessionKey) (c : Cell) (o : Option Session) → CellFacts q c → attached s c ≡ o →
    Changed q c (if is_some o then (if is_renewable s c.user then outcome (record (with_session s checked c) { user = renewed moment s c.user }) Renewed else outcome c Kept) else outcome c NoSession).cell
renew_changed q moment s c None h e = same_changed q c h
renew_changed q moment s c (Some x) h e = renew_by q moment s c x (is_renewable s c.user) h e

pub renew_kept : (p : Pool) (w : World) (s : SessionKey) → InStep p w → Stepped p [] (on_cell w s.uaid (renew w.clock s)).0
renew_kept p w s h =
    on_user p w s.uaid (renew w.clock s) None_events h (λ c m. quiet_owes p w.next c _ (renew_changed p w.clock s c (attached s c) m.facts refl))

-- ---- Close: what the session held the saver holds

touched_rows : (moment : ℕ) (o : Option User) → map (λ r. r.message) (rows_of (touched moment o)) ≡ map (λ r. r.message) (rows_of o)
touched_rows moment None = refl
touched_rows moment (Some u) = refl

touched_channels : (moment : ℕ) (o : Option User) → channels_of (touched moment o) ≡ channels_of o
touched_channels moment None = refl
touched_channels moment (Some u) = refl

touched_there : (moment : ℕ) (o : Option User) → is_some o ≡ true → is_some (touched moment o) ≡ true
touched_there moment None e = e
touched_there moment (Some u) e = refl

closed_held : (c : Cell) (s : SessionKey) (x y : Session) (m : MessageValue) → find (is_session s) c.sessions ≡ Some x → In m (held y) →
    In y (without_first (is_session s) c.sessions) ⊎ (find (is_session s) c.sessions ≡ Some y) →
    IsHeld m (without_first (is_session s) c.sessions) ⊎ IsSaved m (c.savers ++ new_saver x ∷ [])
closed_held c s x y m e i (inl j) = inl (y, j, i)
closed_held c s x y m e i (inr q) = let t : y ≡ x = cc in inr (new_saver x, in_last (new_saver x) c.savers, subst (λ z. In m (held z)) t i)

saver_added : (q : Pool) (c : Cell) (x : Session) → CellFacts q c → In x c.sessions → Changed q c (record c { savers = c.savers ++ new_saver x ∷ [] })
saver_added q c x h i =
    savers_changed q c (c.savers ++ new_saver x ∷ []) h
    (λ v j. elim (in-snoc v (new_saver x) c.savers j) [
      | inl k ↦ h.savers v k
      | inr e ↦ subst (SaverFacts q c.uaid) (sym e) (record { own = λ m k. (h.sessions x i).own m k; saving = λ m k. refl })
    ])
    (λ m j. elim (in-snoc j.0 (new_saver x) c.savers j.1) [
      | inl k ↦ inl (inr (inr (j.0, k, j.2)))
      | inr e ↦ inl (inr (inl (x, i, subst (λ z. In m z.held) e j.2)))
    ])
    (λ m j. inl (inr (inr (j.0, in-append_left j.0 c.savers (new_saver x ∷ []) j.1, j.2))))
    (λ v j. h.housed.sessions x i)

closed_changed : (q : Pool) (moment : ℕ) (s : SessionKey) (c : Cell) (o : Option Session) → CellFacts q c → find (is_session s) c.sessions ≡ o →
    Changed q c (close_of o moment s c).cell
closed_changed q moment s c None h e = same_changed q c h
closed_changed q moment s c (Some x) h e =
    let i = find_in (is_session s) x c.sessions e in
    let a = record c { user = touched moment c.user } in
    let one = route_changed q c (touched moment c.user) h (touched_rows moment c.user) (touched_channels moment c.user) (touched_there moment c.user) in
    let b = record a { savers = c.savers ++ new_saver x ∷ [] } in
    let two = changed_trans q c a b one (saver_added q a x one.facts i) in
    let xs = without_first (is_session s) c.sessions in
    changed_trans q c b (record b { sessions = xs }) two
    (sessions_changed q b xs two.facts (λ y j. two.facts.sessions y (in-without_first (is_session s) y c.sessions j))
    (λ m j. inl (inr (inl (j.0, in-without_first (is_session s) j.0 c.sessions j.1, j.2))))
    (λ m j. elim (closed_held c s x j.0 m e j.2 (without_first-keeps (is_session s) j.0 c.sessions j.1)) [ inl k ↦ inl (inr (inl k)) | inr k ↦ inl (inr (inr k)) ])
    (λ y j. two.facts.housed.sessions y (in-without_first (is_session s) y c.sessions j)))

pub close_kept : (p : Pool) (w : World) (s : SessionKey) → InStep p w → Stepped p [] (on_cell w s.uaid (close w.clock s)).0
close_kept p w s h =
    on_user p w s.uaid (close w.clock s) None_events h (λ c m. quiet_owes p w.next c _ (closed_changed p w.clock s c (find (is_session s) c.sessions) m.facts refl))
