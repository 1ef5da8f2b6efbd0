-- Each step keeps the care for the world, and so no nudge is lost in any legal history.
use Rattle.std.proofs.Common.{◌≡◌, ℕ, ◌+◌, ◌-◌, ◌^◌, Bool, true, false, not, cond, ◌⊎◌, inl, inr, List, [], ◌∷◌, refl, ◌∙◌, ap, arith}
use Rattle.std.specs.Prelude.{find, Option, Some, None, ◌==◌, ◌&&◌, ◌||◌, if◌then◌else◌, sum_by, fold, min}
use Rattle.std.specs.List.{list_any, list_all}
use Rattle.push_model.specs.declared.ids.Op.{Op}
use Rattle.push_model.specs.declared.ids.ChannelId.{ChannelId}
use Rattle.push_model.specs.declared.ids.Token.{Token}
use Rattle.push_model.specs.declared.entry.Entry.{Entry}
use Rattle.push_model.specs.declared.parts.Channel.{Channel}
use Rattle.push_model.specs.declared.parts.Row.{Row}
use Rattle.push_model.specs.declared.step.Actor.TheVariants.{Flight as OfFlight, Saver as OfSaver}
use Rattle.push_model.specs.declared.step.Step.{Step}
use Rattle.push_model.specs.declared.step.Step.TheVariants.{Create, Attach, Register, Begin, Direct, Store, GiveUp, Reread, Nudge, Heard, Lost, TakeCheck, FetchTopic, FetchPlain, TakeDirect, Ack, Report, Tick, Claim, Unregister, Renew, Close, Release, SaveOne, Clear, Notif, Kill, Up, Expire, DropUser, ListOrphans, ListIdle}
use Rattle.push_model.specs.declared.reply.Reply.{Reply}
use Rattle.push_model.specs.declared.reply.Reply.TheVariants.{NodeDown, TokenTaken, IdsSpent}
use Rattle.push_model.specs.SessionKey.{SessionKey}
use Rattle.push_model.specs.AskValue.{AskValue}
use Rattle.push_model.specs.Rows.{is_unsent}
use Rattle.push_model.specs.Sessions.{Session}
use Rattle.push_model.specs.Cells.{Cell, rows_of, channels_of, is_token}
use Rattle.push_model.specs.UserSteps.{create}
use Rattle.push_model.specs.SessionSteps.{attach, register, lacks, take_direct, ack}
use Rattle.push_model.specs.FetchSteps.{take_check, fetch_topic, fetch_plain}
use Rattle.push_model.specs.FlightSteps.{begin, direct, store, give_up, reread, nudge, heard, lost}
use Rattle.push_model.specs.SaverSteps.{saver_reread, saver_nudge, saver_heard, saver_lost}
use Rattle.push_model.specs.Covering.{is_routed, routed_session, fetch_covers, flight_covers, saver_covers, is_covered, is_minded, is_cared_for, is_cared_in, waiting_for, waiting_in}
use Rattle.push_model.specs.Worlds.{World, start, on_cell, has_flight_in, has_token_in, is_token_known, cell_at, is_down}
use Rattle.push_model.specs.ShardSteps.{counts, begin_beside, begin_for, begin_on, new_message, refusal_if}
use Rattle.push_model.specs.Steps.{made, step, act_unless, OnUser}
use Rattle.push_model.specs.Histories.{IsLegal, world_after}
use Rattle.push_model.specs.Pools.{Pool, empty_pool, after_all}
use Rattle.push_model.specs.Images.{image}
use Rattle.push_model.specs.Caring.{is_cared, none_waits, none_waited}
use Rattle.push_model.proofs.Members.{In, find_in, find_passes, list_any-in}
use Rattle.push_model.proofs.Marks.{both}
use Rattle.push_model.proofs.InStep.{InStep}
use Rattle.push_model.proofs.Accounted.{entry_kept, start_in_step}
use Rattle.push_model.proofs.Care.{Minded, BySent, ByCheck, ByFetch, ByFlight, BySaver, ByMark, CareFacts}
use Rattle.push_model.proofs.CareActors.{heard_care, lost_care, give_up_care, reread_care, saver_heard_care, saver_lost_care, saver_reread_care}
use Rattle.push_model.proofs.CareTold.{nudge_care, saver_nudge_care}
use Rattle.push_model.proofs.CareRoute.{create_care, attach_care, register_care}
use Rattle.push_model.proofs.CareSessions.{take_check_care, fetch_topic_care, fetch_plain_care, take_direct_care, ack_care, or_left, or_right}
use Rattle.push_model.proofs.CareRows.{begin_care, direct_care, store_care}
use Rattle.push_model.proofs.CareNew.{tick_cared, claim_cared, unregister_cared, renew_cared, close_cared, release_cared, save_cared, clear_cared, saver_clear_cared, notif_cared, kill_cared, up_cared, expire_cared, drop_cared}
use Rattle.push_model.proofs.CareLift.{AllCared, on_cell_cared, on_flight_cared}

-- ---- Attach, Register and Begin look at the world

attach_by : (w : World) (s : SessionKey) (b : Bool) → AllCared w.cells → AllCared (act_unless (refusal_if b NodeDown) (OnUser s.uaid (attach s)) w).0.cells
attach_by w s true h = h
attach_by w s false h = on_cell_cared w s.uaid (attach s) h (attach_care s (cell_at w.cells s.uaid))

register_by : (w : World) (s : SessionKey) (k : ChannelId) (t : Token) (b : Bool) → AllCared w.cells →
    AllCared (act_unless (refusal_if b TokenTaken) (OnUser s.uaid (register s k t)) w).0.cells
register_by w s k t true h = h
register_by w s k t false h = on_cell_cared w s.uaid (register s k t) h (register_care s k t (cell_at w.cells s.uaid))

begin_by : (w : World) (o : Op) (t : Token) (a : AskValue) (c : Cell) (x : Channel) (b : Bool) → AllCared w.cells →
    AllCared (if b then (w, IdsSpent) else on_cell (record w { next = w.next + 1 }) c.uaid (begin o t (new_message w c x.chid a))).0.cells
begin_by w o t a c x true h = h
begin_by w o t a c x false h =
    on_cell_cared (record w { next = w.next + 1 }) c.uaid (begin o t (new_message w c x.chid a)) h (begin_care o t (new_message w c x.chid a) (cell_at w.cells c.uaid))

begin_channel : (w : World) (o : Op) (t : Token) (a : AskValue) (c : Cell) (x : Option Channel) → AllCared w.cells → AllCared (begin_on x w o t a c).0.cells
begin_channel w o t a c None h = h
begin_channel w o t a c (Some x) h = begin_by w o t a c x (w.next == 2 ^ 63) h

begin_token : (w : World) (o : Op) (t : Token) (a : AskValue) (e : Option (ℕ × Cell)) → AllCared w.cells → AllCared (begin_for e w o t a).0.cells
begin_token w o t a None h = h
begin_token w o t a (Some e) h = begin_channel w o t a e.1 (find (is_token t) (channels_of e.1.user)) h

begin_used : (w : World) (o : Op) (t : Token) (a : AskValue) (e : Option (ℕ × Cell)) → AllCared w.cells → AllCared (begin_beside e w o t a).0.cells
begin_used w o t a (Some e) h = h
begin_used w o t a None h = begin_token w o t a (find (has_token_in t) w.cells) h

-- ---- each step; p is there for steps that need what is known of the pool

pub made_cared : (p : Pool) (w : World) (x : Step) → InStep p w → AllCared w.cells → AllCared (made w x).0.cells
made_cared p w (Create s) k h = on_cell_cared w s.uaid (create w.clock s) h (create_care w.clock s (cell_at w.cells s.uaid))
made_cared p w (Attach s) k h = attach_by w s (is_down s.node w) h
made_cared p w (Register s i t) k h = register_by w s i t (lacks s i (cell_at w.cells s.uaid) && is_token_known t w) h
made_cared p w (Begin o t a) k h = begin_used w o t a (find (has_flight_in o) w.cells) h
made_cared p w (Direct o) k h = on_flight_cared w o (direct w.clock o) h (direct_care w.clock o)
made_cared p w (Store o) k h = on_flight_cared w o (store w.clock o) h (store_care w.clock o)
made_cared p w (GiveUp o) k h = on_flight_cared w o (give_up o) h (give_up_care o)
made_cared p w (Reread (OfFlight o)) k h = on_flight_cared w o (reread o) h (reread_care o)
made_cared p w (Reread (OfSaver s)) k h = on_cell_cared w s.uaid (saver_reread s) h (saver_reread_care s (cell_at w.cells s.uaid))
made_cared p w (Nudge (OfFlight o)) k h = on_flight_cared w o (nudge o) h (nudge_care o)
made_cared p w (Nudge (OfSaver s)) k h = on_cell_cared w s.uaid (saver_nudge s) h (saver_nudge_care s (cell_at w.cells s.uaid))
made_cared p w (Heard (OfFlight o)) k h = on_flight_cared w o (heard o) h (heard_care o)
made_cared p w (Heard (OfSaver s)) k h = on_cell_cared w s.uaid (saver_heard s) h (saver_heard_care s (cell_at w.cells s.uaid))
made_cared p w (Lost (OfFlight o)) k h = on_flight_cared w o (lost o) h (lost_care o)
made_cared p w (Lost (OfSaver s)) k h = on_cell_cared w s.uaid (saver_lost s) h (saver_lost_care s (cell_at w.cells s.uaid))
made_cared p w (TakeCheck s) k h = on_cell_cared w s.uaid (take_check s) h (take_check_care s (cell_at w.cells s.uaid))
made_cared p w (FetchTopic s) k h = on_cell_cared w s.uaid (fetch_topic s) h (fetch_topic_care s (cell_at w.cells s.uaid))
made_cared p w (FetchPlain s) k h = on_cell_cared w s.uaid (fetch_plain s) h (fetch_plain_care s (cell_at w.cells s.uaid))
made_cared p w (TakeDirect s) k h = on_cell_cared w s.uaid (take_direct w.clock s) h (take_direct_care w.clock s (cell_at w.cells s.uaid))
made_cared p w (Ack s c i) k h = on_cell_cared w s.uaid (ack s c i) h (ack_care s c i (cell_at w.cells s.uaid))
made_cared p w Report k h = h
made_cared p w ListOrphans k h = h
made_cared p w ListIdle k h = h
made_cared p w (Tick t) k h = tick_cared w t h
made_cared p w (Claim s) k h = claim_cared w s h
made_cared p w (Unregister s c) k h = unregister_cared p w s c k h
made_cared p w (Renew s) k h = renew_cared w s h
made_cared p w (Close s) k h = close_cared w s h
made_cared p w (Release s) k h = release_cared w s h
made_cared p w (SaveOne s) k h = save_cared w s h
made_cared p w (Clear (OfFlight o)) k h = clear_cared w o h
made_cared p w (Clear (OfSaver s)) k h = saver_clear_cared w s h
made_cared p w (Notif n u) k h = notif_cared w n u h
made_cared p w (Kill n) k h = kill_cared w n h
made_cared p w (Up n) k h = up_cared w n h
made_cared p w (Expire u) k h = expire_cared w u h
made_cared p w (DropUser u) k h = drop_cared w u h

-- ---- the facts say that the world is cared for

all_listed : {A : Type 0} (p : A → Bool) (xs : List A) → ((x : A) → In x xs → p x ≡ true) → list_all p xs ≡ true
all_listed p [] f = refl
all_listed p (x ∷ xs) f = both (p x) (list_all p xs) (f x (inl refl)) (all_listed p xs (λ y i. f y (inr i)))

implied : (a b : Bool) → (a ≡ true → b ≡ true) → (not a || b) ≡ true
implied true b f = f refl
implied false b f = refl

by_any : (a b c d e : Bool) → a ≡ true ⊎ (b ≡ true ⊎ (c ≡ true ⊎ (d ≡ true ⊎ (e ≡ true)))) → (a || b || c || d || e) ≡ true
by_any a b c d e (inl h) = or_left (a || b || c || d) e (or_left (a || b || c) d (or_left (a || b) c (or_left a b h)))
by_any a b c d e (inr (inl h)) = or_left (a || b || c || d) e (or_left (a || b || c) d (or_left (a || b) c (or_right a b h)))
by_any a b c d e (inr (inr (inl h))) = or_left (a || b || c || d) e (or_left (a || b || c) d (or_right (a || b) c h))
by_any a b c d e (inr (inr (inr (inl h)))) = or_left (a || b || c || d) e (or_right (a || b || c) d h)
by_any a b c d e (inr (inr (inr (inr h)))) = or_right (a || b || c || d) e h

covered_by : (c : Cell) (x : Session) (r : Row) →
    x.check ≡ true ⊎ (fetch_covers x.fetch r ≡ true ⊎ (list_any (flight_covers x r) c.flights ≡ true ⊎ (list_any (saver_covers x r) c.savers ≡ true ⊎ (r.orphan ≡ true)))) →
    is_minded c x r ≡ true
covered_by c x r h =
    or_right (not (is_unsent x.sent r)) (is_covered c x r) (by_any x.check (fetch_covers x.fetch r) (list_any (flight_covers x r) c.flights) (list_any (saver_covers x r) c.savers) r.orphan h)

minded : (c : Cell) (x : Session) (r : Row) → Minded c.flights c.savers x r → is_minded c x r ≡ true
minded c x r (BySent h) = or_left (not (is_unsent x.sent r)) (is_covered c x r) (ap (λ b. not (not b)) h)
minded c x r (ByCheck h) = covered_by c x r (inl h)
minded c x r (ByFetch h) = covered_by c x r (inr (inl h))
minded c x r (ByFlight f i h) = covered_by c x r (inr (inr (inl (list_any-in (flight_covers x r) f c.flights i h))))
minded c x r (BySaver v i h) = covered_by c x r (inr (inr (inr (inl (list_any-in (saver_covers x r) v c.savers i h)))))
minded c x r (ByMark h) = covered_by c x r (inr (inr (inr (inr h))))

cell_cared : (c : Cell) → CareFacts c → is_cared_in c ≡ true
cell_cared c h =
    all_listed (is_cared_for c) c.sessions
    (λ x i. implied (is_routed c.user x) (list_all (is_minded c x) (rows_of c.user))
    (λ d. all_listed (is_minded c x) (rows_of c.user) (λ r j. minded c x r (h.minded x i d r j))))

pub world_cared : (w : World) → AllCared w.cells → is_cared w ≡ true
world_cared w h = all_listed (λ e. is_cared_in e.1) w.cells (λ e i. cell_cared e.1 (h e i))

-- ---- so a report counts no waiting row

no_more : {A : Type 0} (f : A → ℕ) (k : ℕ) (xs : List A) → ((x : A) → In x xs → f x ≡ 0) → fold (λ a x. a + f x) k xs ≡ k
no_more f k [] h = refl
no_more f k (x ∷ xs) h =
    let e : k + f x ≡ k = omega (arith, h x (inl refl)) in
    no_more f (k + f x) xs (λ y i. h y (inr i)) ∙ e

none_summed : {A : Type 0} (f : A → ℕ) (xs : List A) → ((x : A) → In x xs → f x ≡ 0) → sum_by f xs ≡ 0
none_summed f xs h = no_more f 0 xs h

not_waiting : (u v : Bool) → (not u || v) ≡ true → (u && not v) ≡ false
not_waiting true true e = refl
not_waiting true false e = cc
not_waiting false v e = refl

abbrev one_for : Bool → ℕ
one_for b = cond b 1 0

none_waiting : (c : Cell) (o : Option Session) → CareFacts c → routed_session c ≡ o → waiting_for o c ≡ 0
none_waiting c None h e = refl
none_waiting c (Some x) h e =
    none_summed (λ r. one_for (is_unsent x.sent r && not (is_covered c x r))) (rows_of c.user)
    (λ r j. ap one_for (not_waiting (is_unsent x.sent r) (is_covered c x r)
    (minded c x r (h.minded x (find_in (is_routed c.user) x c.sessions e) (find_passes (is_routed c.user) x c.sessions e) r j))))

pub counted : (w : World) → AllCared w.cells → (counts w).waiting ≡ 0
counted w h = ap (λ n. min n (2 ^ 64 - 1)) (none_summed (λ e. waiting_in e.1) w.cells (λ e i. none_waiting e.1 (routed_session e.1) (h e i) refl))

zero_test : (n : ℕ) → n ≡ 0 → (n == 0) ≡ true
zero_test n e = ap (λ k. k == 0) e

reported : (w : World) (x : Step) → AllCared w.cells → none_waits x (step w x).1 ≡ true
reported w Report h = zero_test (counts w).waiting (counted w h)
reported w _ h = refl

-- ---- legal histories

pub record CaredFrom (w : World) (es : List (Entry Step Reply)) : Type 0 where
  pub cared : is_cared (world_after step w es) ≡ true
  pub reported : none_waited es ≡ true

pub cared_from : (p : Pool) (w : World) (es : List (Entry Step Reply)) → InStep p w → AllCared w.cells → IsLegal step w es → CaredFrom w es
cared_from p w [] k h l = record { cared = world_cared w h; reported = refl }
cared_from p w (e ∷ es) k h l =
    let later = cared_from (after_all (image p w e) p) (step w e.step).0 es (entry_kept p w e k l.0).in_step (made_cared p w e.step k h) l.1 in
    record {
      cared = later.cared;
      reported = both (none_waits e.step e.reply) (none_waited es) (ap (none_waits e.step) l.0 ∙ reported w e.step h) later.reported;
    }

pub all_cared : (shard next : ℕ) (es : List (Entry Step Reply)) → IsLegal step (start shard next) es → CaredFrom (start shard next) es
all_cared shard next es l = cared_from empty_pool (start shard next) es (start_in_step shard next) (λ e i. elim i [ ]) l
