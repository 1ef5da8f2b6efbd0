-- Flights and savers that move on, or end, lose no nudge.
use Rattle.std.proofs.Common.{◌≡◌, ℕ, Bool, true, false, ◌||◌, not, ◌⊎◌, inl, inr, refl, ◌∙◌, ap, sym}
use Rattle.std.specs.Prelude.{Option, Some, None, ◌==◌}
use Rattle.std.specs.List.{list_any}
use Rattle.push_model.specs.declared.ids.Op.{Op}
use Rattle.push_model.specs.declared.parts.FlightRow.{FlightRow}
use Rattle.push_model.specs.declared.parts.Row.{Row}
use Rattle.push_model.specs.declared.step.Stage.{Stage}
use Rattle.push_model.specs.declared.step.Stage.TheVariants.{Direct as AtDirect, Told, Store as AtStore, Reread as AtReread, Nudge as AtNudge, ToldNudge as AtToldNudge}
use Rattle.push_model.specs.declared.advance.Advance.{Advance}
use Rattle.push_model.specs.declared.advance.Advance.TheVariants.{Moved as Goes, End as Ends, Out, Absent}
use Rattle.push_model.specs.declared.advance.Event.{Event}
use Rattle.push_model.specs.declared.advance.Event.TheVariants.{Heard as HeardOf, Lost as LostOf, GiveUp as GivenUp, Read as ReadPlace}
use Rattle.push_model.specs.Names.{is_same_id}
use Rattle.push_model.specs.SessionKey.{SessionKey}
use Rattle.push_model.specs.Keyed.{with_first, without_first}
use Rattle.push_model.specs.Sessions.{Session}
use Rattle.push_model.specs.Cells.{Cell, User, Saver, is_flight, is_saver, routed_place, is_place, is_routed_to}
use Rattle.push_model.specs.Advances.{to_store, heard_advance, lost_advance, read_place, read_advance, give_up_advance, flight_advance, advance_of, at_stage, saver_heard_advance, saver_lost_advance, saver_advance}
use Rattle.push_model.specs.FlightSteps.{flight, with_stage, without_flight, moved_on, heard, lost, give_up, reread}
use Rattle.push_model.specs.SaverSteps.{saver, saver_at, saver_moved, has_saved, saver_advance_of, saver_heard, saver_lost, saver_reread}
use Rattle.push_model.specs.Covering.{is_routed, stage_covers, is_saving, flight_covers, saver_covers}
use Rattle.push_model.proofs.Members.{In, with_first-keeps, with_first-has, without_first-keeps}
use Rattle.push_model.proofs.Marks.{and_left, and_right, both}
use Rattle.push_model.proofs.Care.{Minded, ByCheck, ByFlight, BySaver, CareFacts, flights_care, savers_care}

-- ---- what an actor at a stage covers

-- for a saver, a stage before it read the route row again covers every session
abbrev pub saver_stage_covers : Stage → Session → Bool
saver_stage_covers stage x = is_saving stage || stage_covers stage x

-- each routed session that the stage a covers is covered by b, or has its check mark
abbrev pub Passes : (Stage → Session → Bool) → Cell → Stage → Stage → Type 0
Passes k c a b = (x : Session) → In x c.sessions → is_routed c.user x ≡ true → k a x ≡ true → (k b x ≡ true) ⊎ (x.check ≡ true)

-- or has its check mark
abbrev pub Stops : (Stage → Session → Bool) → Cell → Stage → Type 0
Stops k c a = (x : Session) → In x c.sessions → is_routed c.user x ≡ true → k a x ≡ true → x.check ≡ true

abbrev pub MayGo : (Stage → Session → Bool) → Cell → Stage → Advance → Type 0
MayGo k c a (Goes b) = Passes k c a b
MayGo k c a (Ends code) = Stops k c a
MayGo k c a (Out stage) = Unit {0}
MayGo k c a Absent = Unit {0}

-- ---- a flight

flown_on : (c : Cell) (o : Op) (stage : Stage) (f y : FlightRow) (x : Session) (r : Row) → flight o c ≡ Some f → Passes stage_covers c f.stage stage →
    In x c.sessions → is_routed c.user x ≡ true → flight_covers x r y ≡ true → In y (with_stage o stage c).flights ⊎ (y ≡ f) →
    Minded (with_stage o stage c).flights c.savers x r
flown_on c o stage f y x r e g i d h (inl j) = ByFlight y j h
flown_on c o stage f y x r e g i d h (inr q) =
    let k : flight_covers x r f ≡ true = ap (flight_covers x r) (sym q) ∙ h in
    let same = and_left (is_same_id f.message.id r.message.id) (stage_covers f.stage x) k in
    elim (g x i d (and_right (is_same_id f.message.id r.message.id) (stage_covers f.stage x) k)) [
      | inl s ↦ ByFlight (at_stage stage f) (with_first-has (is_flight o) (at_stage stage) f c.flights e) (both (is_same_id f.message.id r.message.id) (stage_covers stage x) same s)
      | inr s ↦ ByCheck s
    ]

-- to a stage that covers as much
pub stage_care : (c : Cell) (o : Op) (stage : Stage) (f : FlightRow) → CareFacts c → flight o c ≡ Some f → Passes stage_covers c f.stage stage →
    CareFacts (with_stage o stage c)
stage_care c o stage f h e g =
    flights_care c (with_first (is_flight o) (at_stage stage) c.flights) h
    (λ x i d r l y j k. flown_on c o stage f y x r e g i d k (with_first-keeps (is_flight o) (at_stage stage) y f c.flights e j))

flown_off : (c : Cell) (o : Op) (f y : FlightRow) (x : Session) (r : Row) → flight o c ≡ Some f → Stops stage_covers c f.stage →
    In x c.sessions → is_routed c.user x ≡ true → flight_covers x r y ≡ true → In y (without_flight o c).flights ⊎ (flight o c ≡ Some y) →
    Minded (without_flight o c).flights c.savers x r
flown_off c o f y x r e g i d h (inl j) = ByFlight y j h
flown_off c o f y x r e g i d h (inr q) =
    let s : y ≡ f = cc in
    let k : flight_covers x r f ≡ true = ap (flight_covers x r) (sym s) ∙ h in
    ByCheck (g x i d (and_right (is_same_id f.message.id r.message.id) (stage_covers f.stage x) k))

-- to its end, where it covered nothing
pub end_care : (c : Cell) (o : Op) (f : FlightRow) → CareFacts c → flight o c ≡ Some f → Stops stage_covers c f.stage → CareFacts (without_flight o c)
end_care c o f h e g =
    flights_care c (without_first (is_flight o) c.flights) h
    (λ x i d r l y j k. flown_off c o f y x r e g i d k (without_first-keeps (is_flight o) y c.flights j))

advance_care : (c : Cell) (o : Op) (f : FlightRow) (a : Advance) → CareFacts c → flight o c ≡ Some f → MayGo stage_covers c f.stage a → CareFacts (moved_on a o c)
advance_care c o f (Goes stage) h e g = stage_care c o stage f h e g
advance_care c o f (Ends code) h e g = end_care c o f h e g
advance_care c o f (Out stage) h e g = h
advance_care c o f Absent h e g = h

event_care : (event : Event) (o : Op) (c : Cell) (f : Option FlightRow) → CareFacts c → flight o c ≡ f →
    ((unkept : Bool) (stage : Stage) → MayGo stage_covers c stage (flight_advance event unkept stage)) → CareFacts (moved_on (advance_of event f) o c)
event_care event o c None h e g = h
event_care event o c (Some f) h e g =
    advance_care c o f (flight_advance event (f.message.ask.terms.ttl == 0) f.stage) h e (g (f.message.ask.terms.ttl == 0) f.stage)

-- ---- the table: a stage that covers a session goes to one that covers it

to_store_goes : (c : Cell) (stage : Stage) (b : Bool) → ((x : Session) → stage_covers stage x ≡ false) → MayGo stage_covers c stage (to_store b)
to_store_goes c stage true f = λ x i d k. let n = f x in cc
to_store_goes c stage false f = λ x i d k. let n = f x in cc

heard_goes : (c : Cell) (unkept : Bool) (stage : Stage) → MayGo stage_covers c stage (heard_advance unkept stage)
heard_goes c unkept (Told true) = λ x i d k. cc
heard_goes c unkept (Told false) = to_store_goes c (Told false) unkept (λ x. refl)
heard_goes c unkept (AtToldNudge true n a) = λ x i d k. cc
heard_goes c unkept (AtToldNudge false n a) = λ x i d k. cc
heard_goes c unkept _ = tt

lost_goes : (c : Cell) (unkept : Bool) (stage : Stage) → MayGo stage_covers c stage (lost_advance unkept stage)
lost_goes c unkept (AtDirect n a) = to_store_goes c (AtDirect n a) unkept (λ x. refl)
lost_goes c unkept (Told b) = to_store_goes c (Told b) unkept (λ x. refl)
lost_goes c unkept (AtNudge n a) = λ x i d k. inl k
lost_goes c unkept (AtToldNudge b n a) = λ x i d k. cc
lost_goes c unkept _ = tt

give_up_goes : (c : Cell) (stage : Stage) → MayGo stage_covers c stage (give_up_advance stage)
give_up_goes c (AtDirect n a) = λ x i d k. cc
give_up_goes c (Told b) = λ x i d k. cc
give_up_goes c AtStore = λ x i d k. cc
give_up_goes c _ = tt

-- a routed session is where the route row says
pub routed_there : (o : Option User) (x : Session) (place : Option (ℕ × ℕ)) → routed_place o ≡ place → is_routed o x ≡ true → is_place x.node x.at place ≡ true
routed_there o x place e d = ap (is_place x.node x.at) (sym e) ∙ and_right (not x.displaced) (is_routed_to x.node x.at o) d

read_place_goes : (code : ℕ) (c : Cell) (place : Option (ℕ × ℕ)) → routed_place c.user ≡ place → MayGo stage_covers c AtReread (read_place code place)
read_place_goes code c None e = λ x i d k. let s = routed_there c.user x None e d in cc
read_place_goes code c (Some p) e = λ x i d k. inl (routed_there c.user x (Some p) e d)

read_goes : (code : ℕ) (c : Cell) (stage : Stage) → MayGo stage_covers c stage (read_advance code (routed_place c.user) stage)
read_goes code c AtReread = read_place_goes code c (routed_place c.user) refl
read_goes code c _ = tt

-- ---- the steps of a flight

pub heard_care : (o : Op) (c : Cell) → CareFacts c → CareFacts (heard o c).cell
heard_care o c h = event_care HeardOf o c (flight o c) h refl (heard_goes c)

pub lost_care : (o : Op) (c : Cell) → CareFacts c → CareFacts (lost o c).cell
lost_care o c h = event_care LostOf o c (flight o c) h refl (lost_goes c)

pub give_up_care : (o : Op) (c : Cell) → CareFacts c → CareFacts (give_up o c).cell
give_up_care o c h = event_care GivenUp o c (flight o c) h refl (λ unkept. give_up_goes c)

pub reread_care : (o : Op) (c : Cell) → CareFacts c → CareFacts (reread o c).cell
reread_care o c h = event_care (ReadPlace (routed_place c.user)) o c (flight o c) h refl (λ unkept. read_goes 201 c)

-- ---- a saver

saved_on : (c : Cell) (s : SessionKey) (stage : Stage) (v y : Saver) (x : Session) (r : Row) → saver s c ≡ Some v → Passes saver_stage_covers c v.stage stage →
    In x c.sessions → is_routed c.user x ≡ true → saver_covers x r y ≡ true → In y (with_first (is_saver s) (saver_at stage) c.savers) ⊎ (y ≡ v) →
    Minded c.flights (with_first (is_saver s) (saver_at stage) c.savers) x r
saved_on c s stage v y x r e g i d h (inl j) = BySaver y j h
saved_on c s stage v y x r e g i d h (inr q) =
    let has = list_any (λ i. is_same_id i r.message.id) v.saved in
    let k : saver_covers x r v ≡ true = ap (saver_covers x r) (sym q) ∙ h in
    let same = and_left has (saver_stage_covers v.stage x) k in
    elim (g x i d (and_right has (saver_stage_covers v.stage x) k)) [
      | inl t ↦ BySaver (saver_at stage v) (with_first-has (is_saver s) (saver_at stage) v c.savers e) (both has (saver_stage_covers stage x) same t)
      | inr t ↦ ByCheck t
    ]

-- to a stage that covers as much
pub saver_stage_care : (c : Cell) (s : SessionKey) (stage : Stage) (v : Saver) → CareFacts c → saver s c ≡ Some v →
    Passes saver_stage_covers c v.stage stage → CareFacts (saver_moved (Goes stage) s c)
saver_stage_care c s stage v h e g =
    savers_care c (with_first (is_saver s) (saver_at stage) c.savers) h
    (λ x i d r l y j k. saved_on c s stage v y x r e g i d k (with_first-keeps (is_saver s) (saver_at stage) y v c.savers e j))

saved_off : (c : Cell) (s : SessionKey) (v y : Saver) (x : Session) (r : Row) → saver s c ≡ Some v →
    (list_any (λ i. is_same_id i r.message.id) v.saved ≡ true → saver_stage_covers v.stage x ≡ true → x.check ≡ true) →
    saver_covers x r y ≡ true → In y (without_first (is_saver s) c.savers) ⊎ (saver s c ≡ Some y) →
    Minded c.flights (without_first (is_saver s) c.savers) x r
saved_off c s v y x r e g h (inl j) = BySaver y j h
saved_off c s v y x r e g h (inr q) =
    let t : y ≡ v = cc in
    let k : saver_covers x r v ≡ true = ap (saver_covers x r) (sym t) ∙ h in
    let has = list_any (λ i. is_same_id i r.message.id) v.saved in
    ByCheck (g (and_left has (saver_stage_covers v.stage x) k) (and_right has (saver_stage_covers v.stage x) k))

-- to its end, where it covered nothing
pub saver_end_care : (c : Cell) (s : SessionKey) (v : Saver) → CareFacts c → saver s c ≡ Some v →
    ((x : Session) → In x c.sessions → is_routed c.user x ≡ true → (r : Row) → list_any (λ i. is_same_id i r.message.id) v.saved ≡ true →
    saver_stage_covers v.stage x ≡ true → x.check ≡ true) → CareFacts (record c { savers = without_first (is_saver s) c.savers })
saver_end_care c s v h e g =
    savers_care c (without_first (is_saver s) c.savers) h
    (λ x i d r l y j k. saved_off c s v y x r e (g x i d r) k (without_first-keeps (is_saver s) y c.savers j))

saver_advance_care : (c : Cell) (s : SessionKey) (v : Saver) (a : Advance) → CareFacts c → saver s c ≡ Some v → MayGo saver_stage_covers c v.stage a →
    CareFacts (saver_moved a s c)
saver_advance_care c s v (Goes stage) h e g = saver_stage_care c s stage v h e g
saver_advance_care c s v (Ends code) h e g = saver_end_care c s v h e (λ x i d r k t. g x i d t)
saver_advance_care c s v (Out stage) h e g = h
saver_advance_care c s v Absent h e g = h

saver_event_care : (event : Event) (s : SessionKey) (c : Cell) (v : Option Saver) → CareFacts c → saver s c ≡ v →
    ((some_saved : Bool) (stage : Stage) → MayGo saver_stage_covers c stage (saver_advance event some_saved stage)) →
    CareFacts (saver_moved (saver_advance_of event v) s c)
saver_event_care event s c None h e g = h
saver_event_care event s c (Some v) h e g = saver_advance_care c s v (saver_advance event (has_saved v) v.stage) h e (g (has_saved v) v.stage)

saver_heard_goes : (c : Cell) (stage : Stage) → MayGo saver_stage_covers c stage (saver_heard_advance stage)
saver_heard_goes c (AtToldNudge true n a) = λ x i d k. cc
saver_heard_goes c (AtToldNudge false n a) = λ x i d k. cc
saver_heard_goes c _ = tt

saver_lost_goes : (c : Cell) (stage : Stage) → MayGo saver_stage_covers c stage (saver_lost_advance stage)
saver_lost_goes c (AtNudge n a) = λ x i d k. inl k
saver_lost_goes c (AtToldNudge b n a) = λ x i d k. cc
saver_lost_goes c _ = tt

saver_read_place_goes : (code : ℕ) (c : Cell) (place : Option (ℕ × ℕ)) → routed_place c.user ≡ place →
    MayGo saver_stage_covers c AtReread (read_place code place)
saver_read_place_goes code c None e = λ x i d k. let s = routed_there c.user x None e d in cc
saver_read_place_goes code c (Some p) e = λ x i d k. inl (routed_there c.user x (Some p) e d)

saver_read_goes : (code : ℕ) (c : Cell) (stage : Stage) → MayGo saver_stage_covers c stage (read_advance code (routed_place c.user) stage)
saver_read_goes code c AtReread = saver_read_place_goes code c (routed_place c.user) refl
saver_read_goes code c _ = tt

-- ---- the steps of a saver

pub saver_heard_care : (s : SessionKey) (c : Cell) → CareFacts c → CareFacts (saver_heard s c).cell
saver_heard_care s c h = saver_event_care HeardOf s c (saver s c) h refl (λ b. saver_heard_goes c)

pub saver_lost_care : (s : SessionKey) (c : Cell) → CareFacts c → CareFacts (saver_lost s c).cell
saver_lost_care s c h = saver_event_care LostOf s c (saver s c) h refl (λ b. saver_lost_goes c)

pub saver_reread_care : (s : SessionKey) (c : Cell) → CareFacts c → CareFacts (saver_reread s c).cell
saver_reread_care s c h = saver_event_care (ReadPlace (routed_place c.user)) s c (saver s c) h refl (λ b. saver_read_goes 200 c)
