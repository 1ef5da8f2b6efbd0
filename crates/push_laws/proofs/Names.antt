-- No two channels of a shard have one token, no two flights one name or one message.
use Rattle.std.proofs.Common.{◌≡◌, ℕ, ◌+◌, ◌≤◌, Bool, true, false, ◌&&◌, ◌||◌, not, inl, inr, List, [], ◌∷◌, refl, ◌∙◌, ap, sym, subst, arith}
use Rattle.std.specs.Prelude.{Option, Some, None, find, if◌then◌else◌, length, is_some, ◌==◌, nat_lt, ◌^◌, max}
use Rattle.std.specs.List.{list_any, list_all}
use Rattle.std.proofs.lemmas.Bool.Decides.{nat_tests}
use Rattle.push_model.specs.declared.ids.ChannelId.{ChannelId}
use Rattle.push_model.specs.declared.ids.Op.{Op}
use Rattle.push_model.specs.declared.ids.Token.{Token}
use Rattle.push_model.specs.declared.ids.Uaid.{Uaid}
use Rattle.push_model.specs.declared.parts.Channel.{Channel}
use Rattle.push_model.specs.declared.parts.FlightRow.{FlightRow}
use Rattle.push_model.specs.declared.advance.Advance.{Advance}
use Rattle.push_model.specs.declared.advance.Advance.TheVariants.{Moved as Goes, End as Ends, Out, Absent}
use Rattle.push_model.specs.declared.step.Stage.{Stage}
use Rattle.push_model.specs.declared.step.Actor.TheVariants.{Flight as OfFlight, Saver as OfSaver}
use Rattle.push_model.specs.declared.step.Step.{Step}
use Rattle.push_model.specs.declared.step.Step.TheVariants.{Attach, Register, Begin, Tick, Kill, Up, ListOrphans, ListIdle, Report, Unregister, Expire, DropUser, Reread, Nudge, Heard, Lost, Clear}
use Rattle.push_model.specs.declared.reply.Reply.{Reply}
use Rattle.push_model.specs.declared.reply.Reply.TheVariants.{Done, Dropped, TokenTaken, IdsSpent, NoSession}
use Rattle.push_model.specs.AskValue.{AskValue}
use Rattle.push_model.specs.MessageValue.{MessageValue}
use Rattle.push_model.specs.SessionKey.{SessionKey}
use Rattle.push_model.specs.Names.{is_same_op, is_same_token}
use Rattle.std.specs.Str.{bytes_eq}
use Rattle.std.proofs.lemmas.Slice.Eq.{bytes_eq-Decides}
use Rattle.push_model.specs.Cells.{Cell, User, channels_of, is_channel, is_token, is_flight, is_there, empty_cell}
use Rattle.push_model.specs.Advances.{at_stage, advanced}
use Rattle.push_model.specs.Outcomes.{Outcome, outcome}
use Rattle.push_model.specs.SessionSteps.{attached, lacks, register, register_beside, with_channel}
use Rattle.push_model.specs.FlightSteps.{begin}
use Rattle.push_model.specs.ClockSteps.{ticked}
use Rattle.push_model.specs.NodeSteps.{killed}
use Rattle.push_model.specs.Worlds.{World, cell_at, has_flight_in, has_token_in, is_token_known, on_cell, on_flight_of, with_cell, each}
use Rattle.push_model.specs.ShardSteps.{begin_beside, begin_for, begin_on, new_message, refusal, refusal_if}
use Rattle.push_model.specs.Steps.{Action, OnUser, OnFlight, OnShard, IsOnCell, act, act_unless, action, made}
use Rattle.push_model.specs.Narrow.{LeavesChannels, Unregistered, WithUser}
use Rattle.push_model.specs.Pools.{Pool, Taken, taken_at, is_taken, IsAt}
use Rattle.push_model.proofs.Members.{In, find_in, in-map, list_any-in, true_not_false}
use Rattle.push_model.proofs.Marks.{neither, and_left, and_right}
use Rattle.push_model.proofs.Single.{none_found}
use Rattle.push_model.proofs.CellFacts.{IsCopy, copy_own}
use Rattle.push_model.proofs.InStep.{Sound}
use Rattle.push_model.proofs.Moving.{Moved, Stay, Advanced, Turn}
use Rattle.push_model.proofs.Narrow.{Walked, walked, ticked_names, killed_names, begin_narrow, BegunBy, Unkept, Last}
use Rattle.push_laws.proofs.Counts.{one, amount, amount-filter, amount-none, amount-snoc, amount-with, amount-without, total, total-each, total-none, total-put}

-- ---- numbers are below the next

-- what passes as all do
pub listed : {A : Type 0} (q : A → Bool) (x : A) (xs : List A) → list_all q xs ≡ true → In x xs → q x ≡ true
listed q x [] e i = elim i [ ]
listed q x (y ∷ xs) e (inl s) = ap q s ∙ and_left (q y) (list_all q xs) e
listed q x (y ∷ xs) e (inr i) = listed q x xs (and_right (q y) (list_all q xs) e) i

taken_below : (m : MessageValue) (k : ℕ) (xs : List Taken) (o : Option Taken) → find (is_taken m.id.number) xs ≡ o →
    IsAt o (λ t. (t.left ≡ None) × (t.message ≡ m)) → list_all (λ t. nat_lt t.message.id.number k) xs ≡ true → nat_lt m.id.number k ≡ true
taken_below m k xs None e h a = absurd h
taken_below m k xs (Some t) e h a =
    ap (λ z. nat_lt z.id.number k) (sym h.1) ∙ listed (λ x. nat_lt x.message.id.number k) t xs a (find_in (is_taken m.id.number) t xs e)

-- each message in a cell has a number below the next
pub copy_below : (p : Pool) (w : World) (e : ℕ × Cell) (m : MessageValue) → Sound p w → In e w.cells → IsCopy m e.1 → nat_lt m.id.number w.next ≡ true
copy_below p w e m s i c =
    taken_below m w.next p.taken (taken_at m.id.number p) refl (copy_own p e.1 m (s.cells e i) c).known s.above

-- ---- a cell that is put has no more than the one before

not_empty : (f : FlightRow) (fs : List FlightRow) → (length (f ∷ fs) == 0) ≡ true → ⊥
not_empty f fs e = grind (arith, nat_tests)

gone_flights : (fs : List FlightRow) → (length fs == 0) ≡ true → fs ≡ []
gone_flights [] e = refl
gone_flights (f ∷ fs) e = absurd (not_empty f fs e)

gone_channels : (o : Option User) → is_some o ≡ false → channels_of o ≡ []
gone_channels None e = refl
gone_channels (Some u) e = cc

abbrev IsCounter : (Cell → ℕ) → Type 0
IsCounter g = ((u : Uaid) → g (empty_cell u) ≡ 0) × ((v : Cell) → is_there v ≡ false → g v ≡ 0)

abbrev pub with_token : Token → Cell → ℕ
with_token t c = amount (is_token t) (channels_of c.user)

abbrev pub flown : (FlightRow → Bool) → Cell → ℕ
flown p c = amount p c.flights

token_counter : (t : Token) → IsCounter (with_token t)
token_counter t = (λ u. refl, λ v e. ap (amount (is_token t)) (gone_channels v.user (neither (is_some v.user) (length v.flights == 0) e).0))

flight_counter : (p : FlightRow → Bool) → IsCounter (flown p)
flight_counter p = (λ u. refl, λ v e. ap (amount p) (gone_flights v.flights (neither (is_some v.user) (length v.flights == 0) e).1))

less_put : (a b c d : ℕ) → a + c ≡ b + d → d ≤ c → a ≤ b
less_put a b c d e h = omega (arith, e, h)

less_cell : (g : Cell → ℕ) (w : World) (u : Uaid) (f : Cell → Outcome) → IsCounter g → ((c : Cell) → g (f c).cell ≤ g c) →
    total g (on_cell w u f).0.cells ≤ total g w.cells
less_cell g w u f k h =
    let c = cell_at w.cells u in
    let v = (f c).cell in
    less_put (total g (with_cell u v w.cells)) (total g w.cells) (g c) (g v) (total-put g u v w.cells (k.0 u) (k.1 v)) (h c)

less_flight : (g : Cell → ℕ) (w : World) (e : Option (ℕ × Cell)) (f : Cell → Outcome) → IsCounter g → ((c : Cell) → g (f c).cell ≤ g c) →
    total g (on_flight_of e w f).0.cells ≤ total g w.cells
less_flight g w None f k h = omega arith
less_flight g w (Some e) f k h = less_cell g w e.1.uaid f k h

-- a step on one user that leaves no more in its cell
abbrev NoMore : (Cell → ℕ) → Action → Type 0
NoMore g (OnUser u f) = (c : Cell) → g (f c).cell ≤ g c
NoMore g (OnFlight o f) = (c : Cell) → g (f c).cell ≤ g c
NoMore g (OnShard f) = ⊥

less_act : (g : Cell → ℕ) (a : Action) (w : World) → IsCounter g → NoMore g a → total g (act a w).0.cells ≤ total g w.cells
less_act g (OnUser u f) w k h = less_cell g w u f k h
less_act g (OnFlight o f) w k h = less_flight g w (find (has_flight_in o) w.cells) f k h
less_act g (OnShard f) w k h = absurd h

less_unless : (g : Cell → ℕ) (o : Option Reply) (a : Action) (w : World) → IsCounter g → NoMore g a → total g (act_unless o a w).0.cells ≤ total g w.cells
less_unless g (Some r) a w k h = omega arith
less_unless g None a w k h = less_act g a w k h

-- ---- flights

-- the test looks at no stage
abbrev IsStageless : (FlightRow → Bool) → Type 0
IsStageless p = (s : Stage) (f : FlightRow) → p (at_stage s f) ≡ p f

same_amount : {A : Type 0} (p : A → Bool) (xs ys : List A) → ys ≡ xs → amount p ys ≤ amount p xs
same_amount p xs ys e = let k = ap (amount p) e in omega (arith, k)

advanced_less : (p : FlightRow → Bool) (o : Op) (a : Advance) (fs : List FlightRow) → IsStageless p → amount p (advanced a o fs) ≤ amount p fs
advanced_less p o (Goes s) fs h = let k = amount-with p (is_flight o) (at_stage s) fs (h s) in omega (arith, k)
advanced_less p o (Ends code) fs h = amount-without p (is_flight o) fs
advanced_less p o (Out s) fs h = omega arith
advanced_less p o Absent fs h = omega arith

moved_less : (p : FlightRow → Bool) (x : Step) (o : Op) (fs gs : List FlightRow) → IsStageless p → Moved x o fs gs → amount p gs ≤ amount p fs
moved_less p x o fs gs h (Stay e) = same_amount p fs gs e
moved_less p x o fs gs h (Advanced own a e) = let k = advanced_less p o a fs h in let l = ap (amount p) e in omega (arith, k, l)
moved_less p x o fs gs h (Turn f s there turned e) =
    let k = amount-with p (is_flight o) (at_stage s) fs (h s) in let l = ap (amount p) e in omega (arith, k, l)

flights_no_more : (p : FlightRow → Bool) (x : Step) (a : Action) → IsStageless p → IsOnCell a → ((c : Cell) → Walked x a c) → NoMore (flown p) a
flights_no_more p x (OnUser u f) h i k = λ c. same_amount p c.flights (f c).cell.flights (k c).flights
flights_no_more p x (OnFlight o f) h i k = λ c. moved_less p x o c.flights (f c).cell.flights h (k c).flights
flights_no_more p x (OnShard f) h i k = i

flights_unless : (p : FlightRow → Bool) (o : Option Reply) (w : World) (x : Step) → IsStageless p → IsOnCell (action w.clock x) →
    total (flown p) (act_unless o (action w.clock x) w).0.cells ≤ total (flown p) w.cells
flights_unless p o w x h i =
    less_unless (flown p) o (action w.clock x) w (flight_counter p) (flights_no_more p x (action w.clock x) h i (walked w.clock x))

-- ---- Begin

begun_flown : (p : FlightRow → Bool) (o : Op) (t : Token) (m : MessageValue) (fs gs : List FlightRow) (b : Bool) →
    ((s : Stage) → p (record { op = o; message = m; token = t; stage = s }) ≡ b) → BegunBy o t m fs gs → amount p gs ≤ amount p fs + one b
begun_flown p o t m fs gs b h (Unkept e) = let k = ap (amount p) e in omega (arith, k)
begun_flown p o t m fs gs b h (Last s e) =
    let k = ap (amount p) e in
    let l = amount-snoc p fs (record { op = o; message = m; token = t; stage = s }) in
    let n : one (p (record { op = o; message = m; token = t; stage = s })) ≡ one b = ap one (h s) in
    omega (arith, k, l, n)

once_more : (a b c d : ℕ) (q : Bool) → a + c ≡ b + d → d ≤ c + one q → b ≤ 1 → (q ≡ true → b ≡ 0) → a ≤ 1
once_more a b c d true e h k z = let y = z refl in omega (arith, e, h, y)
once_more a b c d false e h k z = omega (arith, e, h, k)

begun_once : (p : FlightRow → Bool) (w : World) (o : Op) (t : Token) (m : MessageValue) (u : Uaid) (b : Bool) →
    ((s : Stage) → p (record { op = o; message = m; token = t; stage = s }) ≡ b) → total (flown p) w.cells ≤ 1 → (b ≡ true → total (flown p) w.cells ≡ 0) →
    total (flown p) (on_cell w u (begin o t m)).0.cells ≤ 1
begun_once p w o t m u b h k z =
    let c = cell_at w.cells u in
    let v = (begin o t m c).cell in
    let n = flight_counter p in
    once_more (total (flown p) (with_cell u v w.cells)) (total (flown p) w.cells) (flown p c) (flown p v) b
    (total-put (flown p) u v w.cells (n.0 u) (n.1 v)) (begun_flown p o t m c.flights v.flights b h (begin_narrow o t m c).flights) k z

begin_by : (p : FlightRow → Bool) (w : World) (o : Op) (t : Token) (a : AskValue) (c : Cell) (x : Channel) (q b : Bool) →
    ((s : Stage) → p (record { op = o; message = new_message w c x.chid a; token = t; stage = s }) ≡ b) → total (flown p) w.cells ≤ 1 →
    (b ≡ true → total (flown p) w.cells ≡ 0) →
    total (flown p) (if q then (w, IdsSpent) else on_cell (record w { next = w.next + 1 }) c.uaid (begin o t (new_message w c x.chid a))).0.cells ≤ 1
begin_by p w o t a c x true b h k z = k
begin_by p w o t a c x false b h k z = begun_once p (record w { next = w.next + 1 }) o t (new_message w c x.chid a) c.uaid b h k z

begin_channel : (p : FlightRow → Bool) (w : World) (o : Op) (t : Token) (a : AskValue) (c : Cell) (x : Option Channel) (b : Bool) →
    ((x : Channel) (s : Stage) → p (record { op = o; message = new_message w c x.chid a; token = t; stage = s }) ≡ b) → total (flown p) w.cells ≤ 1 →
    (b ≡ true → total (flown p) w.cells ≡ 0) → total (flown p) (begin_on x w o t a c).0.cells ≤ 1
begin_channel p w o t a c None b h k z = k
begin_channel p w o t a c (Some x) b h k z = begin_by p w o t a c x (w.next == 2 ^ 63) b (h x) k z

begin_token : (p : FlightRow → Bool) (w : World) (o : Op) (t : Token) (a : AskValue) (e : Option (ℕ × Cell)) (b : Bool) →
    ((c : Cell) (x : Channel) (s : Stage) → p (record { op = o; message = new_message w c x.chid a; token = t; stage = s }) ≡ b) → total (flown p) w.cells ≤ 1 →
    (b ≡ true → total (flown p) w.cells ≡ 0) → total (flown p) (begin_for e w o t a).0.cells ≤ 1
begin_token p w o t a None b h k z = k
begin_token p w o t a (Some e) b h k z = begin_channel p w o t a e.1 (find (is_token t) (channels_of e.1.user)) b (h e.1) k z

-- where the op is free, the message is new
begin_used : (p : FlightRow → Bool) (w : World) (o : Op) (t : Token) (a : AskValue) (e : Option (ℕ × Cell)) (b : Bool) →
    ((c : Cell) (x : Channel) (s : Stage) → p (record { op = o; message = new_message w c x.chid a; token = t; stage = s }) ≡ b) → total (flown p) w.cells ≤ 1 →
    (e ≡ None → b ≡ true → total (flown p) w.cells ≡ 0) → total (flown p) (begin_beside e w o t a).0.cells ≤ 1
begin_used p w o t a (Some e) b h k z = k
begin_used p w o t a None b h k z = begin_token p w o t a (find (has_token_in t) w.cells) b h k (z refl)

-- ---- the flights of the world, after each step

abbrev IsFree : (FlightRow → Bool) → World → Step → Type 0
IsFree p w (Begin o t a) =
    (b : Bool) × ((c : Cell) (x : Channel) (s : Stage) → p (record { op = o; message = new_message w c x.chid a; token = t; stage = s }) ≡ b) ×
    (find (has_flight_in o) w.cells ≡ None → b ≡ true → total (flown p) w.cells ≡ 0)
IsFree p w _ = Unit {0}

not_above : (a b : ℕ) → a ≤ b → b ≤ 1 → a ≤ 1
not_above a b h k = omega (arith, h, k)

pub flights_made : (p : FlightRow → Bool) (w : World) (x : Step) → IsStageless p → total (flown p) w.cells ≤ 1 → IsFree p w x →
    total (flown p) (made w x).0.cells ≤ 1
flights_made p w (Begin o t a) h k z = begin_used p w o t a (find (has_flight_in o) w.cells) z.0 z.1 k z.2
flights_made p w (Tick t) h k z =
    not_above (total (flown p) (each (ticked (max w.clock t)) w.cells)) (total (flown p) w.cells) (total-each (flown p) (ticked (max w.clock t)) w.cells (λ c. same_amount p c.flights (ticked (max w.clock t) c).flights (ticked_names (max w.clock t) c).flights)) k
flights_made p w (Kill n) h k z =
    not_above (total (flown p) (each (killed n) w.cells)) (total (flown p) w.cells) (total-each (flown p) (killed n) w.cells (λ c. same_amount p c.flights (killed n c).flights (killed_names n c).flights)) k
flights_made p w (Up n) h k z = k
flights_made p w ListOrphans h k z = k
flights_made p w ListIdle h k z = k
flights_made p w Report h k z = k
flights_made p w (Reread (OfFlight o)) h k z = not_above _ _ (flights_unless p None w (Reread (OfFlight o)) h tt) k
flights_made p w (Reread (OfSaver s)) h k z = not_above _ _ (flights_unless p None w (Reread (OfSaver s)) h tt) k
flights_made p w (Nudge (OfFlight o)) h k z = not_above _ _ (flights_unless p None w (Nudge (OfFlight o)) h tt) k
flights_made p w (Nudge (OfSaver s)) h k z = not_above _ _ (flights_unless p None w (Nudge (OfSaver s)) h tt) k
flights_made p w (Heard (OfFlight o)) h k z = not_above _ _ (flights_unless p None w (Heard (OfFlight o)) h tt) k
flights_made p w (Heard (OfSaver s)) h k z = not_above _ _ (flights_unless p None w (Heard (OfSaver s)) h tt) k
flights_made p w (Lost (OfFlight o)) h k z = not_above _ _ (flights_unless p None w (Lost (OfFlight o)) h tt) k
flights_made p w (Lost (OfSaver s)) h k z = not_above _ _ (flights_unless p None w (Lost (OfSaver s)) h tt) k
flights_made p w (Clear (OfFlight o)) h k z = not_above _ _ (flights_unless p None w (Clear (OfFlight o)) h tt) k
flights_made p w (Clear (OfSaver s)) h k z = not_above _ _ (flights_unless p None w (Clear (OfSaver s)) h tt) k
flights_made p w (Attach s) h k z = not_above _ _ (flights_unless p (refusal w (Attach s)) w (Attach s) h tt) k
flights_made p w (Register s i t) h k z = not_above _ _ (flights_unless p (refusal w (Register s i t)) w (Register s i t) h tt) k
flights_made p w x h k z = not_above _ _ (flights_unless p None w x h tt) k

-- ---- names of flights

pub is_op_stageless : (o : Op) → IsStageless (is_flight o)
is_op_stageless o s f = refl

same_numbers : (a b : ℕ) → (a == b) ≡ true → a ≡ b
same_numbers a b e = grind (arith, nat_tests)

same_ops : (o k : Op) (f : FlightRow) → is_same_op o k ≡ true → is_flight k f ≡ is_flight o f
same_ops o k f e =
    let a = same_numbers o.pass k.pass (and_left (o.pass == k.pass) (o.k == k.k) e) in
    let b = same_numbers o.k k.k (and_right (o.pass == k.pass) (o.k == k.k) e) in
    ap (λ n. (f.op.pass == n) && (f.op.k == k.k)) (sym a) ∙ ap (λ n. (f.op.pass == o.pass) && (f.op.k == n)) (sym b)

not_true : (b : Bool) → (b ≡ true → ⊥) → b ≡ false
not_true true h = absurd (h refl)
not_true false h = refl

pub none_any : {A : Type 0} (q : A → Bool) (xs : List A) (x : A) → list_any q xs ≡ false → In x xs → q x ≡ false
none_any q xs x e i = not_true (q x) (λ t. true_not_false (sym (list_any-in q x xs i t) ∙ e))

op_free : (w : World) (o k : Op) → find (has_flight_in o) w.cells ≡ None → is_same_op o k ≡ true → total (flown (is_flight k)) w.cells ≡ 0
op_free w o k e s =
    total-none (flown (is_flight k)) w.cells
    (λ d i. amount-none (is_flight k) d.1.flights
    (λ f j. same_ops o k f s ∙ none_any (is_flight o) d.1.flights f (none_found (has_flight_in o) w.cells e d i) j))

pub op_begun : (k : Op) (w : World) (x : Step) → IsFree (is_flight k) w x
op_begun k w (Begin o t a) = (is_same_op o k, λ c x s. refl, λ e b. op_free w o k e b)
op_begun k w _ = tt

-- ---- messages of flights

abbrev pub has_message : ℕ → FlightRow → Bool
has_message n f = f.message.id.number == n

not_next : (a n k : ℕ) → nat_lt a n ≡ true → (n == k) ≡ true → (a == k) ≡ false
not_next a n k h e = grind (arith, nat_tests)

number_free : (p : Pool) (w : World) (k : ℕ) → Sound p w → (w.next == k) ≡ true → total (flown (has_message k)) w.cells ≡ 0
number_free p w k s e =
    total-none (flown (has_message k)) w.cells
    (λ d i. amount-none (has_message k) d.1.flights
    (λ f j. not_next f.message.id.number w.next k (copy_below p w d f.message s i (inr (in-map (λ y. y.message) f d.1.flights j))) e))

pub number_begun : (p : Pool) (k : ℕ) (w : World) (x : Step) → Sound p w → IsFree (has_message k) w x
number_begun p k w (Begin o t a) s = (w.next == k, λ c x z. refl, λ e b. number_free p w k s b)
number_begun p k w _ s = tt

-- ---- tokens

leaves_less : (t : Token) (xs ys : List Channel) → ys ≡ xs → amount (is_token t) ys ≤ amount (is_token t) xs
leaves_less t xs ys e = same_amount (is_token t) xs ys e

unregistered_less : (t : Token) (h : ChannelId) (xs ys : List Channel) (r : Reply) → Unregistered h xs ys r → amount (is_token t) ys ≤ amount (is_token t) xs
unregistered_less t h xs ys Done e =
    let k = amount-filter (is_token t) (λ x. not (is_channel h x)) xs in let l = ap (amount (is_token t)) e in omega (arith, k, l)
unregistered_less t h xs ys _ e = same_amount (is_token t) xs ys e

with_user_less : (t : Token) (xs ys : List Channel) (r : Reply) → WithUser xs ys r → amount (is_token t) ys ≤ amount (is_token t) xs
with_user_less t xs ys Dropped e = let l : amount (is_token t) ys ≡ 0 = ap (amount (is_token t)) e in omega (arith, l)
with_user_less t xs ys _ e = same_amount (is_token t) xs ys e

abbrev IsNoRegister : Step → Type 0
IsNoRegister (Register s h t) = ⊥
IsNoRegister _ = Unit {0}

channels_less : (t : Token) (x : Step) (xs ys : List Channel) (r : Reply) → IsNoRegister x → LeavesChannels x xs ys r →
    amount (is_token t) ys ≤ amount (is_token t) xs
channels_less t (Register s h k) xs ys r n l = absurd n
channels_less t (Unregister s h) xs ys r n l = unregistered_less t h xs ys r l
channels_less t (Expire u) xs ys r n l = with_user_less t xs ys r l
channels_less t (DropUser u) xs ys r n l = with_user_less t xs ys r l
channels_less t _ xs ys r n l = same_amount (is_token t) xs ys l

tokens_no_more : (t : Token) (x : Step) (a : Action) → IsNoRegister x → IsOnCell a → ((c : Cell) → Walked x a c) → NoMore (with_token t) a
tokens_no_more t x (OnUser u f) n i k = λ c. channels_less t x (channels_of c.user) (channels_of (f c).cell.user) (f c).reply n (k c).channels
tokens_no_more t x (OnFlight o f) n i k = λ c. channels_less t x (channels_of c.user) (channels_of (f c).cell.user) (f c).reply n (k c).channels
tokens_no_more t x (OnShard f) n i k = i

tokens_unless : (t : Token) (o : Option Reply) (w : World) (x : Step) → IsNoRegister x → IsOnCell (action w.clock x) →
    total (with_token t) (act_unless o (action w.clock x) w).0.cells ≤ total (with_token t) w.cells
tokens_unless t o w x n i =
    less_unless (with_token t) o (action w.clock x) w (token_counter t) (tokens_no_more t x (action w.clock x) n i (walked w.clock x))

-- Register adds a channel only where its token is unknown
with_channel_less : (k : Token) (h : ChannelId) (t : Token) (o : Option User) →
    amount (is_token k) (channels_of (with_channel h t o)) ≤ amount (is_token k) (channels_of o) + one (is_same_token t k)
with_channel_less k h t None = omega arith
with_channel_less k h t (Some u) = let e = amount-snoc (is_token k) u.channels (record { chid = h; token = t }) in omega (arith, e)

token_same : (t k : Token) → is_same_token t k ≡ true → t.0 ≡ k.0
token_same t k e = (bytes_eq-Decides t.0 k.0).0 e

same_tokens : (t k : Token) (x : Channel) → is_same_token t k ≡ true → is_token k x ≡ is_token t x
same_tokens t k x e = ap (λ z. bytes_eq x.token.0 z) (sym (token_same t k e))

token_free : (w : World) (t k : Token) → is_token_known t w ≡ false → is_same_token t k ≡ true → total (with_token k) w.cells ≡ 0
token_free w t k e s =
    total-none (with_token k) w.cells
    (λ d i. amount-none (is_token k) (channels_of d.1.user)
    (λ x j. same_tokens t k x s ∙ none_any (is_token t) (channels_of d.1.user) x (none_any (has_token_in t) w.cells d e i) j))

registers_less : (k : Token) (h : ChannelId) (t : Token) (c : Cell) (b : Bool) (x : Option Channel) →
    with_token k (if b then register_beside x h t c else outcome c NoSession).cell ≤ with_token k c + one ((b && not (is_some x)) && is_same_token t k)
registers_less k h t c false x = omega arith
registers_less k h t c true (Some x) = omega arith
registers_less k h t c true None = with_channel_less k h t c.user

found_is : (a : Bool) (x : Channel) (l : Bool) (o : Option Channel) → l ≡ is_some o → (a || l) ≡ is_some (if a then Some x else o)
found_is true x l o e = refl
found_is false x l o e = e

any_found : (q : Channel → Bool) (xs : List Channel) → list_any q xs ≡ is_some (find q xs)
any_found q [] = refl
any_found q (x ∷ xs) = found_is (q x) x (list_any q xs) (find q xs) (any_found q xs)

registered_once : (k : Token) (w : World) (s : SessionKey) (h : ChannelId) (t : Token) (l : Bool) → lacks s h (cell_at w.cells s.uaid) ≡ l →
    total (with_token k) w.cells ≤ 1 → (l ≡ true → is_same_token t k ≡ true → total (with_token k) w.cells ≡ 0) →
    total (with_token k) (on_cell w s.uaid (register s h t)).0.cells ≤ 1
registered_once k w s h t l e n f =
    let c = cell_at w.cells s.uaid in
    let v = (register s h t c).cell in
    let z = token_counter k in
    let b = is_some (attached s c) in
    let m = registers_less k h t c b (find (is_channel h) (channels_of c.user)) in
    let same : (b && not (is_some (find (is_channel h) (channels_of c.user)))) ≡ l = ap (λ y. b && not y) (sym (any_found (is_channel h) (channels_of c.user))) ∙ e in
    once_more (total (with_token k) (with_cell s.uaid v w.cells)) (total (with_token k) w.cells) (with_token k c) (with_token k v) (l && is_same_token t k)
    (total-put (with_token k) s.uaid v w.cells (z.0 s.uaid) (z.1 v)) (subst (λ y. with_token k v ≤ with_token k c + one (y && is_same_token t k)) same m) n
    (λ q. f (and_left l (is_same_token t k) q) (and_right l (is_same_token t k) q))

register_by : (k : Token) (w : World) (s : SessionKey) (h : ChannelId) (t : Token) (l b : Bool) → lacks s h (cell_at w.cells s.uaid) ≡ l →
    is_token_known t w ≡ b → total (with_token k) w.cells ≤ 1 →
    total (with_token k) (act_unless (refusal_if (l && b) TokenTaken) (OnUser s.uaid (register s h t)) w).0.cells ≤ 1
register_by k w s h t true true e f n = n
register_by k w s h t true false e f n = registered_once k w s h t true e n (λ q r. token_free w t k f r)
register_by k w s h t false b e f n = registered_once k w s h t false e n (λ q r. absurd (true_not_false (sym q)))

-- Begin leaves the channels
begun_tokens : (k : Token) (w : World) (u : Uaid) (o : Op) (t : Token) (m : MessageValue) → total (with_token k) (on_cell w u (begin o t m)).0.cells ≤ total (with_token k) w.cells
begun_tokens k w u o t m =
    less_cell (with_token k) w u (begin o t m) (token_counter k) (λ c. same_amount (is_token k) (channels_of c.user) (channels_of (begin o t m c).cell.user) (ap channels_of (begin_narrow o t m c).user))

begin_tokens_by : (k : Token) (w : World) (o : Op) (t : Token) (a : AskValue) (c : Cell) (x : Channel) (q : Bool) →
    total (with_token k) (if q then (w, IdsSpent) else on_cell (record w { next = w.next + 1 }) c.uaid (begin o t (new_message w c x.chid a))).0.cells ≤ total (with_token k) w.cells
begin_tokens_by k w o t a c x true = omega arith
begin_tokens_by k w o t a c x false = begun_tokens k (record w { next = w.next + 1 }) c.uaid o t (new_message w c x.chid a)

begin_tokens_on : (k : Token) (w : World) (o : Op) (t : Token) (a : AskValue) (c : Cell) (x : Option Channel) →
    total (with_token k) (begin_on x w o t a c).0.cells ≤ total (with_token k) w.cells
begin_tokens_on k w o t a c None = omega arith
begin_tokens_on k w o t a c (Some x) = begin_tokens_by k w o t a c x (w.next == 2 ^ 63)

begin_tokens_for : (k : Token) (w : World) (o : Op) (t : Token) (a : AskValue) (e : Option (ℕ × Cell)) →
    total (with_token k) (begin_for e w o t a).0.cells ≤ total (with_token k) w.cells
begin_tokens_for k w o t a None = omega arith
begin_tokens_for k w o t a (Some e) = begin_tokens_on k w o t a e.1 (find (is_token t) (channels_of e.1.user))

begin_tokens : (k : Token) (w : World) (o : Op) (t : Token) (a : AskValue) (e : Option (ℕ × Cell)) →
    total (with_token k) (begin_beside e w o t a).0.cells ≤ total (with_token k) w.cells
begin_tokens k w o t a (Some e) = omega arith
begin_tokens k w o t a None = begin_tokens_for k w o t a (find (has_token_in t) w.cells)

pub tokens_made : (k : Token) (w : World) (x : Step) → total (with_token k) w.cells ≤ 1 → total (with_token k) (made w x).0.cells ≤ 1
tokens_made k w (Begin o t a) n = not_above _ _ (begin_tokens k w o t a (find (has_flight_in o) w.cells)) n
tokens_made k w (Tick t) n =
    not_above (total (with_token k) (each (ticked (max w.clock t)) w.cells)) (total (with_token k) w.cells) (total-each (with_token k) (ticked (max w.clock t)) w.cells (λ c. same_amount (is_token k) (channels_of c.user) (channels_of (ticked (max w.clock t) c).user) (ticked_names (max w.clock t) c).channels)) n
tokens_made k w (Kill j) n =
    not_above (total (with_token k) (each (killed j) w.cells)) (total (with_token k) w.cells) (total-each (with_token k) (killed j) w.cells (λ c. same_amount (is_token k) (channels_of c.user) (channels_of (killed j c).user) (killed_names j c).channels)) n
tokens_made k w (Up j) n = n
tokens_made k w ListOrphans n = n
tokens_made k w ListIdle n = n
tokens_made k w Report n = n
tokens_made k w (Register s h t) n = register_by k w s h t (lacks s h (cell_at w.cells s.uaid)) (is_token_known t w) refl refl n
tokens_made k w (Attach s) n = not_above _ _ (tokens_unless k (refusal w (Attach s)) w (Attach s) tt tt) n
tokens_made k w (Reread (OfFlight o)) n = not_above _ _ (tokens_unless k None w (Reread (OfFlight o)) tt tt) n
tokens_made k w (Reread (OfSaver s)) n = not_above _ _ (tokens_unless k None w (Reread (OfSaver s)) tt tt) n
tokens_made k w (Nudge (OfFlight o)) n = not_above _ _ (tokens_unless k None w (Nudge (OfFlight o)) tt tt) n
tokens_made k w (Nudge (OfSaver s)) n = not_above _ _ (tokens_unless k None w (Nudge (OfSaver s)) tt tt) n
tokens_made k w (Heard (OfFlight o)) n = not_above _ _ (tokens_unless k None w (Heard (OfFlight o)) tt tt) n
tokens_made k w (Heard (OfSaver s)) n = not_above _ _ (tokens_unless k None w (Heard (OfSaver s)) tt tt) n
tokens_made k w (Lost (OfFlight o)) n = not_above _ _ (tokens_unless k None w (Lost (OfFlight o)) tt tt) n
tokens_made k w (Lost (OfSaver s)) n = not_above _ _ (tokens_unless k None w (Lost (OfSaver s)) tt tt) n
tokens_made k w (Clear (OfFlight o)) n = not_above _ _ (tokens_unless k None w (Clear (OfFlight o)) tt tt) n
tokens_made k w (Clear (OfSaver s)) n = not_above _ _ (tokens_unless k None w (Clear (OfSaver s)) tt tt) n
tokens_made k w x n = not_above _ _ (tokens_unless k None w x tt tt) n
