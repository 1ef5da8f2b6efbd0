-- Each step leaves the flights of other passes, in every world and history.
use Rattle.std.proofs.Common.{◌≡◌, ◌≢◌, ℕ, ◌+◌, ◌^◌, Bool, true, false, inl, inr, List, [], ◌∷◌, refl, ap, max, arith}
use Rattle.std.specs.Prelude.{find, Option, Some, None, ◌==◌, if◌then◌else◌}
use Rattle.std.proofs.lemmas.Bool.Decides.{nat_tests}
use Rattle.push_model.specs.declared.ids.Op.{Op}
use Rattle.push_model.specs.declared.ids.Token.{Token}
use Rattle.push_model.specs.declared.ids.Uaid.{Uaid}
use Rattle.push_model.specs.declared.entry.Entry.{Entry}
use Rattle.push_model.specs.declared.parts.Channel.{Channel}
use Rattle.push_model.specs.declared.step.Actor.TheVariants.{Flight as OfFlight, Saver as OfSaver}
use Rattle.push_model.specs.declared.step.Stage.{Stage}
use Rattle.push_model.specs.declared.step.Step.{Step}
use Rattle.push_model.specs.declared.step.Step.TheVariants.{Begin, Direct, Store, GiveUp, Reread, Nudge, Heard, Lost, Report, Tick, Clear, Kill, Up, ListOrphans, ListIdle}
use Rattle.push_model.specs.declared.reply.Reply.{Reply}
use Rattle.push_model.specs.declared.reply.Reply.TheVariants.{IdsSpent}
use Rattle.push_model.specs.Names.{is_same_op}
use Rattle.push_model.specs.AskValue.{AskValue}
use Rattle.push_model.specs.Cells.{Cell, channels_of, is_token, is_flight}
use Rattle.push_model.specs.Outcomes.{Outcome}
use Rattle.push_model.specs.FlightSteps.{begin, flight}
use Rattle.push_model.specs.NodeSteps.{killed}
use Rattle.push_model.specs.ClockSteps.{ticked}
use Rattle.push_model.specs.Worlds.{World, on_cell, on_flight_of, has_flight_in, has_token_in, cell_at}
use Rattle.push_model.specs.ShardSteps.{begin_beside, begin_for, begin_on, new_message, refusal}
use Rattle.push_model.specs.Steps.{Action, OnUser, OnFlight, OnShard, act, act_unless, action, proper, step}
use Rattle.push_model.specs.Histories.{AllProper, world_after}
use Rattle.push_model.specs.Frames.{is_own, NoneOf, Turned, TurnedBy, IsLeft, NoneBy, flight_at}
use Rattle.push_model.proofs.Quiet.{Quiet}
use Rattle.push_model.proofs.Moving.{Moves}
use Rattle.push_model.proofs.Narrow.{Walked, walked}
use Rattle.push_model.proofs.Framed.{is_left, left_same, left_wider, left_then, begun_other, moved_left, with_cell_left, each_same}

-- ---- Begin

numbered_left : (o k : Op) (w : World) (t : Token) (a : AskValue) (c : Cell) (x : Channel) (b : Bool) → is_same_op k o ≡ false →
    IsLeft (TurnedBy o (Begin k t a)) (flight_at o w)
    (flight_at o (if b then (w, IdsSpent) else on_cell (record w { next = w.next + 1 }) c.uaid (begin k t (new_message w c x.chid a))).0)
numbered_left o k w t a c x true ne = is_left (TurnedBy o (Begin k t a)) (flight_at o w)
numbered_left o k w t a c x false ne =
    let d = cell_at w.cells c.uaid in
    let m = new_message w c x.chid a in
    with_cell_left (TurnedBy o (Begin k t a)) o c.uaid (begin k t m d).cell w.cells
    (left_same (TurnedBy o (Begin k t a)) (flight o d) (flight o (begin k t m d).cell) (begun_other o k t m d ne))

channel_left : (o k : Op) (w : World) (t : Token) (a : AskValue) (c : Cell) (x : Option Channel) → is_same_op k o ≡ false →
    IsLeft (TurnedBy o (Begin k t a)) (flight_at o w) (flight_at o (begin_on x w k t a c).0)
channel_left o k w t a c None ne = is_left (TurnedBy o (Begin k t a)) (flight_at o w)
channel_left o k w t a c (Some x) ne = numbered_left o k w t a c x (w.next == 2 ^ 63) ne

token_left : (o k : Op) (w : World) (t : Token) (a : AskValue) (e : Option (ℕ × Cell)) → is_same_op k o ≡ false →
    IsLeft (TurnedBy o (Begin k t a)) (flight_at o w) (flight_at o (begin_for e w k t a).0)
token_left o k w t a None ne = is_left (TurnedBy o (Begin k t a)) (flight_at o w)
token_left o k w t a (Some e) ne = channel_left o k w t a e.1 (find (is_token t) (channels_of e.1.user)) ne

begin_left : (o k : Op) (w : World) (t : Token) (a : AskValue) (e : Option (ℕ × Cell)) → is_same_op k o ≡ false →
    IsLeft (TurnedBy o (Begin k t a)) (flight_at o w) (flight_at o (begin_beside e w k t a).0)
begin_left o k w t a None ne = token_left o k w t a (find (has_token_in t) w.cells) ne
begin_left o k w t a (Some e) ne = is_left (TurnedBy o (Begin k t a)) (flight_at o w)

-- ---- the steps of the shard

abbrev ShardLeft : Op → Step → Action → World → Type 0
ShardLeft o x (OnUser u f) w = Unit {0}
ShardLeft o x (OnFlight k f) w = Unit {0}
ShardLeft o x (OnShard f) w = IsLeft (TurnedBy o x) (flight_at o w) (flight_at o (f w).0)

shard_left : (o : Op) (w : World) (x : Step) → is_own o x ≡ false → ShardLeft o x (action w.clock x) w
shard_left o w (Begin k t a) h = begin_left o k w t a (find (has_flight_in k) w.cells) h
shard_left o w (Tick t) h = left_same (TurnedBy o (Tick t)) (flight_at o w) _ (each_same o (ticked (max w.clock t)) w.cells (λ c. refl))
shard_left o w (Kill n) h = left_same (TurnedBy o (Kill n)) (flight_at o w) _ (each_same o (killed n) w.cells (λ c. refl))
shard_left o w (Up n) h = is_left (TurnedBy o (Up n)) (flight_at o w)
shard_left o w ListOrphans h = is_left (TurnedBy o ListOrphans) (flight_at o w)
shard_left o w ListIdle h = is_left (TurnedBy o ListIdle) (flight_at o w)
shard_left o w Report h = is_left (TurnedBy o Report) (flight_at o w)
shard_left o w (Reread (OfFlight k)) h = tt
shard_left o w (Reread (OfSaver s)) h = tt
shard_left o w (Nudge (OfFlight k)) h = tt
shard_left o w (Nudge (OfSaver s)) h = tt
shard_left o w (Heard (OfFlight k)) h = tt
shard_left o w (Heard (OfSaver s)) h = tt
shard_left o w (Lost (OfFlight k)) h = tt
shard_left o w (Lost (OfSaver s)) h = tt
shard_left o w (Clear (OfFlight k)) h = tt
shard_left o w (Clear (OfSaver s)) h = tt
shard_left o w _ h = tt

-- ---- each step

quiet_left : (x : Step) (o : Op) (u : Uaid) (w : World) (f : Cell → Outcome) → Quiet x (cell_at w.cells u) (f (cell_at w.cells u)) →
    IsLeft (TurnedBy o x) (flight_at o w) (flight_at o (on_cell w u f).0)
quiet_left x o u w f h =
    let c = cell_at w.cells u in
    with_cell_left (TurnedBy o x) o u (f c).cell w.cells
    (left_same (TurnedBy o x) (flight o c) (flight o (f c).cell) (ap (find (is_flight o)) h.flights))

flight_left : (x : Step) (o k : Op) (w : World) (e : Option (ℕ × Cell)) (f : Cell → Outcome) → is_own o x ≡ false → ((c : Cell) → Moves x k c (f c)) →
    IsLeft (TurnedBy o x) (flight_at o w) (flight_at o (on_flight_of e w f).0)
flight_left x o k w None f n h = is_left (TurnedBy o x) (flight_at o w)
flight_left x o k w (Some e) f n h =
    let c = cell_at w.cells e.1.uaid in
    with_cell_left (TurnedBy o x) o e.1.uaid (f c).cell w.cells (moved_left x o k c.flights (f c).cell.flights n (h c).flights)

act_left : (x : Step) (o : Op) (a : Action) (w : World) → is_own o x ≡ false → ((c : Cell) → Walked x a c) → ShardLeft o x a w →
    IsLeft (TurnedBy o x) (flight_at o w) (flight_at o (act a w).0)
act_left x o (OnUser u f) w n h k = quiet_left x o u w f (h (cell_at w.cells u))
act_left x o (OnFlight i f) w n h k = flight_left x o i w (find (has_flight_in i) w.cells) f n h
act_left x o (OnShard f) w n h k = k

unless_left : (o : Op) (w : World) (x : Step) (r : Option Reply) → is_own o x ≡ false →
    IsLeft (TurnedBy o x) (flight_at o w) (flight_at o (act_unless r (action w.clock x) w).0)
unless_left o w x (Some r) h = is_left (TurnedBy o x) (flight_at o w)
unless_left o w x None h = act_left x o (action w.clock x) w h (walked w.clock x) (shard_left o w x h)

pub step_left : (o : Op) (w : World) (x : Step) → is_own o x ≡ false → IsLeft (TurnedBy o x) (flight_at o w) (flight_at o (step w x).0)
step_left o w x h = unless_left o w x (refusal w x) h

-- ---- histories

turned_by : (o : Op) (x : Step) (s t : Stage) → TurnedBy o x s t → Turned s t
turned_by o (Direct k) s t h = inl h.1
turned_by o (Nudge (OfFlight k)) s t h = inr h.1
turned_by o x s t h = absurd h

pub history_left : (o : Op) (w : World) (es : List (Entry Step Reply)) → NoneOf o es →
    IsLeft Turned (flight_at o w) (flight_at o (world_after step w es))
history_left o w [] n = is_left Turned (flight_at o w)
history_left o w (e ∷ es) n =
    let v = (step w e.step).0 in
    left_then (flight_at o w) (flight_at o v) (flight_at o (world_after step v es))
    (left_wider (TurnedBy o e.step) Turned (flight_at o w) (flight_at o v) (turned_by o e.step) (step_left o w e.step n.0))
    (history_left o v es n.1)

-- ---- a step that is proper for another number is none of the flight's own

other_op : (o k : Op) (q : ℕ) → q ≢ o.pass → (k.pass == q) ≡ true → is_same_op k o ≡ false
other_op o k q ne e = grind (arith, nat_tests)

pub foreign : (o : Op) (q : ℕ) (x : Step) → q ≢ o.pass → proper q x ≡ true → is_own o x ≡ false
foreign o q (Begin k t a) ne e = other_op o k q ne e
foreign o q (Store k) ne e = other_op o k q ne e
foreign o q (GiveUp k) ne e = other_op o k q ne e
foreign o q (Reread (OfFlight k)) ne e = other_op o k q ne e
foreign o q (Reread (OfSaver s)) ne e = refl
foreign o q (Heard (OfFlight k)) ne e = other_op o k q ne e
foreign o q (Heard (OfSaver s)) ne e = refl
foreign o q (Lost (OfFlight k)) ne e = other_op o k q ne e
foreign o q (Lost (OfSaver s)) ne e = refl
foreign o q (Clear (OfFlight k)) ne e = other_op o k q ne e
foreign o q (Clear (OfSaver s)) ne e = refl
foreign o q x ne e = refl

all_foreign : (o : Op) (es : List (Entry Step Reply)) → AllProper proper es → NoneBy o.pass es → NoneOf o es
all_foreign o [] p n = tt
all_foreign o (e ∷ es) p n = (foreign o e.by e.step n.0 p.0, all_foreign o es p.1 n.1)

pub others_left : (o : Op) (w : World) (es : List (Entry Step Reply)) → AllProper proper es → NoneBy o.pass es →
    IsLeft Turned (flight_at o w) (flight_at o (world_after step w es))
others_left o w es p n = history_left o w es (all_foreign o es p n)
