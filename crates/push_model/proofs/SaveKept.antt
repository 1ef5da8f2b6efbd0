-- SaveOne, Unregister, and the drop of a user keep pool and world in step.
use Rattle.std.proofs.Common.{◌≡◌, ℕ, Bool, true, false, not, ◌&&◌, ◌⊎◌, inl, inr, List, [], ◌∷◌, filter, refl, ◌∙◌, ap, sym, subst, arith}
use Rattle.std.specs.Prelude.{map, find, Option, Some, None, is_some, ◌==◌, if◌then◌else◌}
use Rattle.std.specs.List.{list_any}
use Rattle.std.proofs.lemmas.Bool.Decides.{nat_tests}
use Rattle.push_model.specs.declared.ids.Uaid.{Uaid}
use Rattle.push_model.specs.declared.ids.ChannelId.{ChannelId}
use Rattle.push_model.specs.declared.parts.Channel.{Channel}
use Rattle.push_model.specs.declared.parts.FlightRow.{FlightRow}
use Rattle.push_model.specs.declared.parts.Row.{Row}
use Rattle.push_model.specs.declared.step.Stage.{Stage}
use Rattle.push_model.specs.declared.step.Stage.TheVariants.{Saving as AtSaving, Reread as AtReread}
use Rattle.push_model.specs.declared.advance.Event.TheVariants.{AllSaved as NothingHeld}
use Rattle.push_model.specs.declared.reply.Reason.TheVariants.{Channel as ChannelGone, Zero, Expired}
use Rattle.push_model.specs.declared.reply.Reply.TheVariants.{NoSession, Kept, Left, Done, Dropped}
use Rattle.push_model.specs.Names.{is_same_channel}
use Rattle.push_model.specs.SessionKey.{SessionKey}
use Rattle.push_model.specs.MessageValue.{MessageValue}
use Rattle.push_model.specs.Messages.{is_expired}
use Rattle.push_model.specs.Keyed.{with_first}
use Rattle.push_model.specs.Rows.{is_row, shares_topic, verdict}
use Rattle.push_model.specs.Sessions.{Session, held, is_session, forgot}
use Rattle.push_model.specs.Cells.{Cell, User, Saver, rows_of, channels_of, is_channel, is_saver, with_stored}
use Rattle.push_model.specs.Advances.{all_saved_advance}
use Rattle.push_model.specs.Outcomes.{outcome, Outcome}
use Rattle.push_model.specs.UserSteps.{dropped, drop_user, expire, is_idle_user}
use Rattle.push_model.specs.SessionSteps.{attached, is_other_row, without_channel, unregister}
use Rattle.push_model.specs.SaverSteps.{unclosed_reply, saver, saver_moved, saver_advance_of, has_saved, with_held, with_saved, with_saver, left, saved, saved_row, save_held, save_at, save_of, save, save_by}
use Rattle.push_model.specs.Worlds.{World, on_cell}
use Rattle.push_model.specs.Pools.{Pool, Keep, Unsubscribe, Drop, taken_at, is_subscribed, is_same_user, is_sent_to, after}
use Rattle.push_model.specs.Images.{unregister_events, drop_events, save_events}
use Rattle.push_model.proofs.Members.{In, true_not_false, find_in, among, list_any-in, in-filter, in_filter, filter_passes, in-map, from_map, in-with_first, with_first-keeps, with_first-has}
use Rattle.push_model.proofs.Marks.{both}
use Rattle.push_model.proofs.Reasons.{HasReason}
use Rattle.push_model.proofs.Growth.{Grew, IsKept, grown_unanswered, expired_reason, zero_reason}
use Rattle.push_model.proofs.Events.{keep_steady, keep_kept}
use Rattle.push_model.proofs.Endings.{Ends, EndsAll, unsubscribe_steady, unsubscribe_reason, drop_steady, drop_reason}
use Rattle.push_model.proofs.CellFacts.{number, IsRow, IsStored, IsCopy, IsOwn, HasChannel, UserFacts, user_none, SessionFacts, SaverFacts, CellFacts, Any, copy_own, grew_onward, user_onward, flight_onward}
use Rattle.push_model.proofs.InStep.{InStep, Stepped}
use Rattle.push_model.proofs.Lift.{Owes, Changed, on_user, steady_owes, quiet_owes, same_owes}
use Rattle.push_model.proofs.Changes.{changed_trans, user_grew, sessions_changed, savers_changed}
use Rattle.push_model.proofs.AdvanceKept.{only_at}
use Rattle.push_model.proofs.SaverKept.{Empty, moved_changed, ended_changed}
use Rattle.push_model.specs.declared.standing.Verdict.{Verdict}
use Rattle.push_model.specs.declared.standing.Verdict.TheVariants.{Stays, Older, Full, Joins}
use Rattle.push_model.proofs.Verdicts.{Means, means}
use Rattle.push_model.proofs.StoredRows.{greater_reason, lesser_reason, stored_there, very_row}
use Rattle.push_model.proofs.StoreKept.{Keeps, can_keep_at, above_zero, channel_number, row_kept, user_later, own_later}
use Rattle.push_model.proofs.StoreKept.{row_stored as row_joined}

-- ---- SaveOne

-- the saver's first message is m, and the others are ms
record IsNext (c : Cell) (s : SessionKey) (v : Saver) (m : MessageValue) (ms : List MessageValue) : Type 0 where
  there : saver s c ≡ Some v
  held : v.held ≡ m ∷ ms
  stage : v.stage ≡ AtSaving

its_saver : (c : Cell) (s : SessionKey) (v : Saver) (m : MessageValue) (ms : List MessageValue) → IsNext c s v m ms → In v c.savers
its_saver c s v m ms n = find_in (is_saver s) v c.savers n.there

its_copy : (c : Cell) (s : SessionKey) (v : Saver) (m k : MessageValue) (ms : List MessageValue) → IsNext c s v m ms → In k (m ∷ ms) → IsCopy k c
its_copy c s v m k ms n i = inl (inr (inr (v, its_saver c s v m ms n, subst (In k) (sym n.held) i)))

-- the saver holds the others
record Rests (f : Saver → Saver) (v : Saver) (ms : List MessageValue) : Type 0 where
  held : (f v).held ≡ ms
  stage : (f v).stage ≡ v.stage

rest_facts : (q : Pool) (c : Cell) (s : SessionKey) (f : Saver → Saver) (v : Saver) (m : MessageValue) (ms : List MessageValue) → CellFacts q c → IsNext c s v m ms →
    Rests f v ms → SaverFacts q c.uaid (f v)
rest_facts q c s f v m ms h n r =
    record {
      own = λ k i. copy_own q c k h (its_copy c s v m k ms n (inr (subst (In k) r.held i)));
      saving = λ k i. r.stage ∙ n.stage;
    }

rest_held : (q : Pool) (c : Cell) (s : SessionKey) (f : Saver → Saver) (v y : Saver) (m k : MessageValue) (ms : List MessageValue) → IsNext c s v m ms → Rests f v ms →
    IsRow m c.user ⊎ HasReason q (number m) → In k y.held → In y (with_first (is_saver s) f c.savers) ⊎ (y ≡ v) →
    IsStored k (with_saver s f c) ⊎ HasReason q (number k)
rest_held q c s f v y m k ms n r g i (inl j) = inl (inr (inr (y, j, i)))
rest_held q c s f v y m k ms n r g i (inr e) =
    elim (subst (In k) n.held (subst (λ z. In k z.held) e i)) [
      | inl t ↦ elim g [ inl j ↦ inl (inl (subst (λ z. IsRow z c.user) (sym t) j)) | inr w ↦ inr (subst (λ z. HasReason q (number z)) (sym t) w) ]
      | inr j ↦ inl (inr (inr (f v, with_first-has (is_saver s) f v c.savers n.there, subst (In k) (sym r.held) j)))
    ]

rest_was : (c : Cell) (s : SessionKey) (f : Saver → Saver) (v y : Saver) (m k : MessageValue) (ms : List MessageValue) → IsNext c s v m ms → Rests f v ms → In k y.held →
    In y c.savers ⊎ (y ≡ f v) → IsCopy k c
rest_was c s f v y m k ms n r i (inl j) = inl (inr (inr (y, j, i)))
rest_was c s f v y m k ms n r i (inr e) = its_copy c s v m k ms n (inr (subst (In k) r.held (subst (λ z. In k z.held) e i)))

-- the first message goes: it is a row, or has a reason
rest_changed : (q : Pool) (c : Cell) (s : SessionKey) (f : Saver → Saver) (v : Saver) (m : MessageValue) (ms : List MessageValue) → CellFacts q c → IsNext c s v m ms →
    Rests f v ms → IsRow m c.user ⊎ HasReason q (number m) → Changed q c (with_saver s f c)
rest_changed q c s f v m ms h n r g =
    let vs = with_first (is_saver s) f c.savers in
    let back : (y : Saver) → In y vs → In y c.savers ⊎ (y ≡ f v) = λ y i. in-with_first (is_saver s) f y v c.savers n.there i in
    savers_changed q c vs h
    (λ y i. elim (back y i) [ inl j ↦ h.savers y j | inr e ↦ subst (SaverFacts q c.uaid) (sym e) (rest_facts q c s f v m ms h n r) ])
    (λ k i. rest_was c s f v i.0 m k ms n r i.2 (back i.0 i.1))
    (λ k i. rest_held q c s f v i.0 m k ms n r g i.2 (with_first-keeps (is_saver s) f i.0 v c.savers n.there i.1))
    (λ y i. h.housed.savers v (find_in (is_saver s) v c.savers n.there))

left_changed : (q : Pool) (c : Cell) (s : SessionKey) (v : Saver) (m : MessageValue) (ms : List MessageValue) → CellFacts q c → IsNext c s v m ms →
    HasReason q (number m) → Changed q c (left s ms c)
left_changed q c s v m ms h n r = rest_changed q c s (with_held ms) v m ms h n (record { held = refl; stage = refl }) (inr r)

saved_changed : (q : Pool) (c : Cell) (s : SessionKey) (v : Saver) (m : MessageValue) (ms : List MessageValue) → CellFacts q c → IsNext c s v m ms →
    IsRow m c.user → Changed q c (saved s m.id ms c)
saved_changed q c s v m ms h n r = rest_changed q c s (with_saved m.id ms) v m ms h n (record { held = refl; stage = refl }) (inl r)

channel_subscribed : (p : Pool) (u : Uaid) (k : ChannelId) (o : Option User) → UserFacts p u o → HasChannel k o → is_subscribed u k p ≡ true
channel_subscribed p u k o h e =
    let a = among (is_channel k) (channels_of o) e in
    let s = channel_number a.one.chid k a.passes in
    subst (λ n. list_any (λ x. is_same_user x.0 u && (x.1.0 == n)) p.subscribed ≡ true) s (h.subscribed a.one a.member)

channel_user : (k : ChannelId) (o : Option User) → HasChannel k o → is_some o ≡ true
channel_user k None e = e
channel_user k (Some u) e = refl

-- what is known where the message is to be saved
record CanSave (p : Pool) (c : Cell) (s : SessionKey) (v : Saver) (m : MessageValue) (ms : List MessageValue) : Type 0 where
  facts : CellFacts p c
  next : IsNext c s v m ms
  channel : HasChannel m.chid c.user
  lasting : (m.ask.terms.ttl == 0) ≡ false
  timely : is_expired p.clock m ≡ false

save_own : (p : Pool) (c : Cell) (s : SessionKey) (v : Saver) (m : MessageValue) (ms : List MessageValue) → CanSave p c s v m ms → IsOwn p c.uaid m
save_own p c s v m ms h = copy_own p c m h.facts (its_copy c s v m m ms h.next (inl refl))

-- the message is kept, and the cell changes
save_owes : (p : Pool) (next : ℕ) (c x : Cell) (s : SessionKey) (v : Saver) (m : MessageValue) (ms : List MessageValue) → CanSave p c s v m ms →
    ((q : Pool) → Grew (Keeps c.uaid (number m)) p q → IsKept (number m) q → Changed q c x) → Owes p next next c x (Keep (number m) ∷ [])
save_owes p next c x s v m ms h g =
    let n = number m in
    let q = after (Keep n) p in
    let w = save_own p c s v m ms h in
    let t = keep_steady (Keeps c.uaid n) n p (only_at c.uaid m (taken_at n p) w.owned w.known) in
    let here = channel_subscribed p c.uaid m.chid c.user h.facts.user h.channel in
    let sub : is_subscribed m.uaid m.chid p ≡ true = subst (λ u. is_subscribed u m.chid p ≡ true) (sym w.owned) here in
    let can = can_keep_at p m (taken_at n p) w.known (above_zero m.ask.terms.ttl h.lasting) h.timely sub in
    steady_owes (Keeps c.uaid n) p next c x (Keep n ∷ []) (can, tt) t (record { answered = λ k a. absurd a; kept = λ k a. a.0; ended = λ y k a. absurd a })
    (g q t.grew (keep_kept m p w.known))

save_row_owes : (p : Pool) (next : ℕ) (c : Cell) (s : SessionKey) (v : Saver) (m : MessageValue) (ms : List MessageValue) → CanSave p c s v m ms →
    list_any (is_row m.id) (rows_of c.user) ≡ true → Owes p next next c (saved s m.id ms c) (Keep (number m) ∷ [])
save_row_owes p next c s v m ms h d =
    let w = save_own p c s v m ms h in
    save_owes p next c (saved s m.id ms c) s v m ms h
    (λ q g k.
    let one = row_kept p q c m h.facts g w h.channel d in
    changed_trans q c c (saved s m.id ms c) one (saved_changed q c s v m ms one.facts h.next (very_row p c m h.facts w d)))

saved_row_owes : (p : Pool) (next : ℕ) (c : Cell) (s : SessionKey) (v : Saver) (m : MessageValue) (ms : List MessageValue) → CanSave p c s v m ms →
    ((q : Pool) → UserFacts q c.uaid c.user → IsOwn q c.uaid m → IsKept (number m) q → (r : Row) → find (shares_topic m) (rows_of c.user) ≡ Some r →
    HasReason q (number r.message)) → Owes p next next c (saved_row s m ms c).cell (Keep (number m) ∷ [])
saved_row_owes p next c s v m ms h f =
    let n = number m in
    let w = save_own p c s v m ms h in
    let x = record c { user = with_stored m c.user } in
    let u = channel_user m.chid c.user h.channel in
    save_owes p next c (saved_row s m ms c).cell s v m ms h
    (λ q g k.
    let one = row_joined p q c m h.facts g (its_copy c s v m m ms h.next (inl refl)) u h.channel k (f q (user_later p q n c g h.facts) (own_later p q c.uaid n m g w) k) in
    changed_trans q c x (saved s m.id ms x) one
    (saved_changed q x s v m ms one.facts (record { there = h.next.there; held = h.next.held; stage = h.next.stage }) (stored_there m c.user u)))

-- what SaveOne owes where it does that
abbrev SaveOwes : Pool → ℕ → Cell → Outcome → Type 0
SaveOwes p next c x = Owes p next next c x.cell (save_events x.reply)

-- by the verdict
save_by_owes : (p : Pool) (next : ℕ) (c : Cell) (s : SessionKey) (v : Saver) (m : MessageValue) (ms : List MessageValue) (x : Verdict) → CanSave p c s v m ms →
    Means m (rows_of c.user) x → SaveOwes p next c (save_by x s m ms c)
save_by_owes p next c s v m ms Stays h d = save_row_owes p next c s v m ms h d
save_by_owes p next c s v m ms Older h d =
    quiet_owes p next c (left s ms c)
    (left_changed p c s v m ms h.facts h.next (greater_reason p c m d.more.row h.facts (save_own p c s v m ms h) d.other d.more.found d.more.greater))
save_by_owes p next c s v m ms Full h d = saved_row_owes p next c s v m ms h (λ q x w k r t. let none = d.more in cc)
save_by_owes p next c s v m ms Joins h d =
    saved_row_owes p next c s v m ms h (λ q x w k r t. lesser_reason q c.uaid c.user m r x w k t (d.more r t))

gone_reason : (p : Pool) (c : Cell) (m : MessageValue) → HasChannel m.chid c.user ⊎ HasReason p (number m) → list_any (is_channel m.chid) (channels_of c.user) ≡ false →
    HasReason p (number m)
gone_reason p c m (inl e) d = absurd (true_not_false (sym e ∙ d))
gone_reason p c m (inr r) d = r

message_owes : (p : Pool) (next moment : ℕ) (c : Cell) (s : SessionKey) (v : Saver) (m : MessageValue) (ms : List MessageValue) (here zero due : Bool) → p.clock ≡ moment →
    CellFacts p c → IsNext c s v m ms → list_any (is_channel m.chid) (channels_of c.user) ≡ here → (m.ask.terms.ttl == 0) ≡ zero → is_expired moment m ≡ due →
    SaveOwes p next c (if not here then outcome (left s ms c) (Left m.id ChannelGone) else if zero then outcome (left s ms c) (Left m.id Zero) else if due then outcome (left s ms c) (Left m.id Expired) else save_by (verdict m (rows_of c.user)) s m ms c)
message_owes p next moment c s v m ms false zero due t h n a b d =
    let i = its_copy c s v m m ms n (inl refl) in
    quiet_owes p next c (left s ms c) (left_changed p c s v m ms h n (gone_reason p c m (h.copies m i).channel a))
message_owes p next moment c s v m ms true true due t h n a b d =
    let w = copy_own p c m h (its_copy c s v m m ms n (inl refl)) in
    quiet_owes p next c (left s ms c) (left_changed p c s v m ms h n (zero_reason p m w.known b))
message_owes p next moment c s v m ms true false true t h n a b d =
    let w = copy_own p c m h (its_copy c s v m m ms n (inl refl)) in
    quiet_owes p next c (left s ms c) (left_changed p c s v m ms h n (expired_reason p m w.known (ap (λ k. is_expired k m) t ∙ d)))
message_owes p next moment c s v m ms true false false t h n a b d =
    save_by_owes p next c s v m ms (verdict m (rows_of c.user))
    (record { facts = h; next = n; channel = a; lasting = b; timely = ap (λ k. is_expired k m) t ∙ d }) (means m (rows_of c.user))

all_saved_by : (q : Pool) (c : Cell) (s : SessionKey) (v : Saver) (b : Bool) → CellFacts q c → saver s c ≡ Some v → Empty v →
    Changed q c (saver_moved (all_saved_advance b AtSaving) s c)
all_saved_by q c s v true h e f = moved_changed q c s AtReread v h e f
all_saved_by q c s v false h e f = ended_changed q c s v h e f

all_saved_changed : (q : Pool) (c : Cell) (s : SessionKey) (v : Saver) → CellFacts q c → saver s c ≡ Some v → v.stage ≡ AtSaving → Empty v →
    Changed q c (saver_moved (saver_advance_of NothingHeld (saver s c)) s c)
all_saved_changed q c s v h e k f =
    subst (λ o. Changed q c (saver_moved (saver_advance_of NothingHeld o) s c)) (sym e)
    (subst (λ z. Changed q c (saver_moved (all_saved_advance (has_saved v) z) s c)) (sym k) (all_saved_by q c s v (has_saved v) h e f))

save_held_owes : (p : Pool) (next moment : ℕ) (c : Cell) (s : SessionKey) (v : Saver) (ms : List MessageValue) → p.clock ≡ moment → CellFacts p c →
    saver s c ≡ Some v → v.stage ≡ AtSaving → v.held ≡ ms → SaveOwes p next c (save_held ms moment s c)
save_held_owes p next moment c s v [] t h e k d =
    quiet_owes p next c _ (all_saved_changed p c s v h e k (λ m i. subst (In m) d i))
save_held_owes p next moment c s v (m ∷ ms) t h e k d =
    message_owes p next moment c s v m ms (list_any (is_channel m.chid) (channels_of c.user)) (m.ask.terms.ttl == 0) (is_expired moment m) t h
    (record { there = e; held = d; stage = k }) refl refl refl

save_staged : (p : Pool) (next moment : ℕ) (c : Cell) (s : SessionKey) (v : Saver) (stage : Stage) → p.clock ≡ moment → CellFacts p c → saver s c ≡ Some v →
    v.stage ≡ stage → SaveOwes p next c (save_at stage v.held moment s c)
save_staged p next moment c s v AtSaving t h e k = save_held_owes p next moment c s v v.held t h e k refl
save_staged p next moment c s v _ t h e k = same_owes p next c h

no_save : (s : SessionKey) (c : Cell) (o : Option Session) → save_events (unclosed_reply o) ≡ []
no_save s c None = refl
no_save s c (Some x) = refl

save_of_owes : (p : Pool) (next moment : ℕ) (c : Cell) (s : SessionKey) (v : Option Saver) → p.clock ≡ moment → CellFacts p c → saver s c ≡ v →
    SaveOwes p next c (save_of v moment s c)
save_of_owes p next moment c s None t h e =
    subst (Owes p next next c c) (sym (no_save s c (find (is_session s) c.sessions))) (same_owes p next c h)
save_of_owes p next moment c s (Some v) t h e = save_staged p next moment c s v v.stage t h e refl

-- SaveOne keeps pool and world in step
pub save_kept : (p : Pool) (w : World) (s : SessionKey) → InStep p w → Stepped p (save_events (on_cell w s.uaid (save w.clock s)).1) (on_cell w s.uaid (save w.clock s)).0
save_kept p w s h =
    on_user p w s.uaid (save w.clock s) save_events h (λ c m. save_of_owes p w.next w.clock c s (saver s c) h.sound.clock m.facts refl)

-- ---- Unregister

-- a message of that channel of that user
sent_there : (u : Uaid) (h : ChannelId) (m : MessageValue) → m.uaid.0 ≡ u.0 → is_same_channel m.chid h ≡ true → is_sent_to u h m ≡ true
sent_there u h m e d = both (is_same_user m.uaid u) (is_same_channel m.chid h) (grind (arith, nat_tests)) d

channel_back : (h : ChannelId) (o : Option User) (m : MessageValue) → IsRow m (without_channel h o) → IsRow m o
channel_back h None m i = i
channel_back h (Some u) m i =
    let r = from_map (λ x. x.message) m (filter (is_other_row h) u.rows) i in
    subst (λ k. IsRow k (Some u)) (sym r.2) (in-map (λ x. x.message) r.0 u.rows (in-filter (is_other_row h) r.0 u.rows r.1))

row_other : (h : ChannelId) (u : User) (r : Row) (m : MessageValue) (b : Bool) → m ≡ r.message → In r u.rows → is_same_channel r.message.chid h ≡ b →
    IsRow m (without_channel h (Some u)) ⊎ (is_same_channel m.chid h ≡ true)
row_other h u r m true e i d = inr (ap (λ k. is_same_channel k.chid h) e ∙ d)
row_other h u r m false e i d =
    inl (subst (λ k. IsRow k (without_channel h (Some u))) (sym e) (in-map (λ x. x.message) r (filter (is_other_row h) u.rows) (in_filter (is_other_row h) r u.rows i (ap not d))))

row_or : (h : ChannelId) (o : Option User) (m : MessageValue) → IsRow m o → IsRow m (without_channel h o) ⊎ (is_same_channel m.chid h ≡ true)
row_or h None m i = inl i
row_or h (Some u) m i = let r = from_map (λ x. x.message) m u.rows i in row_other h u r.0 m (is_same_channel r.0.message.chid h) r.2 r.1 refl

other_channel : (h k : ChannelId) (x : Channel) → is_channel k x ≡ true → is_same_channel k h ≡ false → not (is_channel h x) ≡ true
other_channel h k x e d = ap not (both_false (is_channel h x) (λ t. true_not_false (sym (same t) ∙ d)))
  where
    same : is_channel h x ≡ true → is_same_channel k h ≡ true
    same t = grind (arith, nat_tests, e, t)

    both_false : (b : Bool) → (b ≡ true → ⊥) → b ≡ false
    both_false true f = absurd (f refl)
    both_false false f = refl

channel_by : (h k : ChannelId) (o : Option User) (b : Bool) → is_same_channel k h ≡ b → HasChannel k o → HasChannel k (without_channel h o) ⊎ (is_same_channel k h ≡ true)
channel_by h k o true d e = inr d
channel_by h k None false d e = inl e
channel_by h k (Some u) false d e =
    let a = among (is_channel k) u.channels e in
    inl (list_any-in (is_channel k) a.one (filter (λ x. not (is_channel h x)) u.channels) (in_filter (λ x. not (is_channel h x)) a.one u.channels a.member (other_channel h k a.one a.passes d)) a.passes)

ended_not : (h : ChannelId) (o : Option User) (k : Channel) → In k (channels_of (without_channel h o)) → is_same_channel k.chid h ≡ true → ⊥
ended_not h None k i e = i
ended_not h (Some u) k i e = let f = filter_passes (λ x. not (is_channel h x)) k u.channels i in true_not_false (sym f ∙ ap not e)

channels_back : (h : ChannelId) (o : Option User) (k : Channel) → In k (channels_of (without_channel h o)) → In k (channels_of o)
channels_back h None k i = i
channels_back h (Some u) k i = in-filter (λ x. not (is_channel h x)) k u.channels i

channel_owner : (h : ChannelId) (o : Option User) → is_some o ≡ true → is_some (without_channel h o) ≡ true
channel_owner h None e = e
channel_owner h (Some u) e = refl

unregistered : (p : Pool) (u : Uaid) (h : ChannelId) (c : Cell) → c.uaid.0 ≡ u.0 → CellFacts p c →
    Changed (after (Unsubscribe u h) p) c (record c { user = without_channel h c.user; sessions = map (forgot h) c.sessions })
unregistered p u h c s f =
    let q = after (Unsubscribe u h) p in
    let g = (unsubscribe_steady u h p).grew in
    let on = grew_onward (Ends u h) p q g in
    let o = without_channel h c.user in
    let goes : (m : MessageValue) → IsCopy m c → is_same_channel m.chid h ≡ true → HasReason q (number m) = λ m i d.
    let w = copy_own p c m f i in unsubscribe_reason u h m p w.known (sent_there u h m (ap (λ x. x.0) w.owned ∙ s) d) in
    let old = user_onward Any p q c.uaid o on (λ m i. tt) (λ k i e. elim (g.subscribed c.uaid k.chid e) [ inl t ↦ t | inr a ↦ absurd (ended_not h c.user k i a.1) ])
    (record { own = λ m i. f.user.own m (channel_back h c.user m i); kept = λ m i. f.user.kept m (channel_back h c.user m i); subscribed = λ k i. f.user.subscribed k (channels_back h c.user k i) }) in
    let one = user_grew (Ends u h) p q c o g f (record {
      user = old;
      answered = λ y i a. a;
      kept = λ m i a. absurd a;
      back = λ m i. inl (inl (channel_back h c.user m i));
      rows = λ m i. elim (row_or h c.user m i) [ inl j ↦ inl j | inr d ↦ inr (goes m (inl (inl i)) d) ];
      channels = λ m i e. elim (channel_by h m.chid c.user (is_same_channel m.chid h) refl e) [ inl j ↦ inl j | inr d ↦ inr (goes m i d) ];
      stays = channel_owner h c.user;
    }) in
    let x = record c { user = o } in
    let xs = map (forgot h) c.sessions in
    changed_trans q c x (record x { sessions = xs }) one
    (sessions_changed q x xs one.facts
    (λ y i. let a = from_map (forgot h) y c.sessions i in
    let k = one.facts.sessions a.0 a.1 in
    subst (SessionFacts q c.uaid) (sym a.2) (record { own = k.own; direct = k.direct; sent = λ z j. k.sent z (in-filter (λ z. not (is_same_channel z.0 h)) z a.0.sent j) }))
    (λ m i. let a = from_map (forgot h) i.0 c.sessions i.1 in inl (inr (inl (a.0, a.1, subst (λ z. In m (held z)) a.2 i.2))))
    (λ m i. inl (inr (inl (forgot h i.0, in-map (forgot h) i.0 c.sessions i.1, i.2))))
    (λ y i. let a = from_map (forgot h) y c.sessions i in one.facts.housed.sessions a.0 a.1))

unregister_by : (p : Pool) (next : ℕ) (u : Uaid) (h : ChannelId) (c : Cell) (b : Bool) → c.uaid.0 ≡ u.0 → CellFacts p c →
    Owes p next next c (if b then outcome (record c { user = without_channel h c.user; sessions = map (forgot h) c.sessions }) Done else outcome c NoSession).cell (unregister_events u h (if b then outcome (record c { user = without_channel h c.user; sessions = map (forgot h) c.sessions }) Done else outcome c NoSession).reply)
unregister_by p next u h c false s f = same_owes p next c f
unregister_by p next u h c true s f =
    steady_owes (Ends u h) p next c _ (Unsubscribe u h ∷ []) (tt, tt) (unsubscribe_steady u h p)
    (record { answered = λ m a. absurd a; kept = λ m a. absurd a; ended = λ x k a. a.0 ∙ sym s }) (unregistered p u h c s f)

-- Unregister keeps pool and world in step
pub unregister_kept : (p : Pool) (w : World) (s : SessionKey) (h : ChannelId) → InStep p w →
    Stepped p (unregister_events s.uaid h (on_cell w s.uaid (unregister s h)).1) (on_cell w s.uaid (unregister s h)).0
unregister_kept p w s h k =
    on_user p w s.uaid (unregister s h) (unregister_events s.uaid h) k (λ c m. unregister_by p w.next s.uaid h c (is_some (attached s c)) m.user m.facts)

-- ---- a user is dropped

dropped_changed : (p : Pool) (u : Uaid) (c : Cell) → c.uaid.0 ≡ u.0 → CellFacts p c → Changed (after (Drop u) p) c (dropped c)
dropped_changed p u c s f =
    let q = after (Drop u) p in
    let g = (drop_steady u p).grew in
    let on = grew_onward (EndsAll u) p q g in
    let goes : (m : MessageValue) → IsCopy m c → HasReason q (number m) = λ m i.
    let w = copy_own p c m f i in drop_reason u m p w.known (same_owner m.uaid u (ap (λ x. x.0) w.owned ∙ s)) in
    let flown : (y : FlightRow) → In y c.flights → IsCopy y.message c = λ y i. inr (in-map (λ z. z.message) y c.flights i) in
    record {
      same = refl;
      facts =
          record {
            user = user_none q c.uaid;
            sessions = λ x i. elim i [ ];
            savers = λ v i. elim i [ ];
            flights = λ y i. let n = number y.message in
                flight_onward Any p q c.uaid y on tt (grown_unanswered (EndsAll u) y.message (taken_at n p) (taken_at n q) (g.at n) (λ a. a) (f.flights y i).own.known (f.flights y i).unanswered) (f.flights y i);
            distinct = f.distinct;
            told = λ y i e. inr (goes y.message (flown y i));
            copies = λ m i. let r = goes m (only_flown c m i) in record { kept = λ k. inr r; channel = inr r };
            housed = record { claims = λ k i. elim i [ ]; sessions = λ x i. elim i [ ]; savers = λ v i. elim i [ ] };
          };
      excused = λ m i. inr (goes m i);
    }
  where
    same_owner : (x y : Uaid) → x.0 ≡ y.0 → is_same_user x y ≡ true
    same_owner x y e = grind (arith, nat_tests)

    only_flown : (c : Cell) (m : MessageValue) → IsCopy m (dropped c) → IsCopy m c
    only_flown c m (inl (inl i)) = elim i [ ]
    only_flown c m (inl (inr (inl i))) = absurd i.1
    only_flown c m (inl (inr (inr i))) = absurd i.1
    only_flown c m (inr i) = inr i

drop_by : (p : Pool) (next : ℕ) (u : Uaid) (c : Cell) (b : Bool) → c.uaid.0 ≡ u.0 → CellFacts p c →
    Owes p next next c (if b then outcome (dropped c) Dropped else outcome c Kept).cell (drop_events u (if b then outcome (dropped c) Dropped else outcome c Kept).reply)
drop_by p next u c false s f = same_owes p next c f
drop_by p next u c true s f =
    steady_owes (EndsAll u) p next c (dropped c) (Drop u ∷ []) (tt, tt) (drop_steady u p)
    (record { answered = λ m a. absurd a; kept = λ m a. absurd a; ended = λ x k a. a ∙ sym s }) (dropped_changed p u c s f)

-- DropUser keeps pool and world in step
pub drop_kept : (p : Pool) (w : World) (u : Uaid) → InStep p w → Stepped p (drop_events u (on_cell w u drop_user).1) (on_cell w u drop_user).0
drop_kept p w u k = on_user p w u drop_user (drop_events u) k (λ c m. drop_by p w.next u c (is_some c.user) m.user m.facts)

-- so does Expire
pub expire_kept : (p : Pool) (w : World) (u : Uaid) → InStep p w → Stepped p (drop_events u (on_cell w u (expire w.clock)).1) (on_cell w u (expire w.clock)).0
expire_kept p w u k = on_user p w u (expire w.clock) (drop_events u) k (λ c m. drop_by p w.next u c (is_idle_user w.clock c.user c.sessions) m.user m.facts)
