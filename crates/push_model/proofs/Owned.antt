-- A step that a flight's own pass makes at one of its stages is never refused, and the flight goes on as the reply says.
use Rattle.std.proofs.Common.{◌≡◌, ◌≢◌, ℕ, Bool, true, false, cond, ◌||◌, not, inl, inr, List, [], ◌∷◌, ◌++◌, ◌+◌, ◌^◌, refl, ◌∙◌, ap, sym, subst, arith}
use Rattle.std.specs.Prelude.{find, Option, Some, None, is_some, ◌==◌, length, if◌then◌else◌}
use Rattle.std.specs.List.{list_any}
use Rattle.std.specs.Map.{lookup, set_value, remove_entry}
use Rattle.push_model.specs.declared.ids.Op.{Op}
use Rattle.push_model.specs.declared.ids.Uaid.{Uaid}
use Rattle.push_model.specs.declared.ids.Token.{Token}
use Rattle.push_model.specs.declared.parts.Channel.{Channel}
use Rattle.push_model.specs.AskValue.{AskValue}
use Rattle.std.proofs.lemmas.Bool.Decides.{nat_tests}
use Rattle.push_model.specs.declared.parts.FlightRow.{FlightRow}
use Rattle.push_model.specs.declared.step.Actor.TheVariants.{Flight as OfFlight}
use Rattle.push_model.specs.declared.step.Stage.{Stage}
use Rattle.push_model.specs.declared.step.Stage.TheVariants.{Direct as AtDirect, Store as AtStore}
use Rattle.push_model.specs.declared.step.Step.{Step}
use Rattle.push_model.specs.declared.step.Step.TheVariants.{Begin, Direct, Store, GiveUp, Reread, Nudge, Heard, Lost, Clear}
use Rattle.push_model.specs.declared.reply.Reply.{Reply}
use Rattle.push_model.specs.declared.reply.Reply.TheVariants.{Stage as StageIs, IdsSpent}
use Rattle.push_model.specs.MessageValue.{MessageValue}
use Rattle.push_model.specs.Cells.{Cell, is_flight, is_there, routed_place, is_token, channels_of}
use Rattle.push_model.specs.Advances.{at_stage}
use Rattle.push_model.specs.Outcomes.{Outcome}
use Rattle.push_model.specs.FlightSteps.{flight, begin, begin_to, with_flight, heard, lost, give_up, reread, direct, store, nudge, clear}
use Rattle.push_model.specs.Worlds.{World, found_or_empty, cell_at, put_beside, with_cell, settled, on_cell, on_flight, on_flight_of, has_flight_in, has_token_in}
use Rattle.push_model.specs.ShardSteps.{new_message, begin_beside, begin_for, begin_on, stage_reply}
use Rattle.push_model.specs.Steps.{made, step}
use Rattle.push_model.specs.Reached.{IsReached}
use Rattle.push_model.specs.Replies.{is_refusal}
use Rattle.push_model.specs.Frames.{first_of, flight_among, flight_at, IsLeft}
use Rattle.push_model.specs.OwnSteps.{IsDue, IsBegun, stage_after}
use Rattle.push_model.proofs.Members.{In, Distinct, find_in}
use Rattle.push_model.proofs.Single.{none_found}
use Rattle.push_model.proofs.Entries.{at, key, at_same, lookup_member}
use Rattle.push_model.proofs.Framed.{left_same, left_absent, with_cell_left}
use Rattle.push_model.proofs.Reached.{known}
use Rattle.push_model.proofs.Going.{Going, clear_goes, direct_goes, give_up_goes, heard_goes, lost_goes, nudge_goes, reread_goes, store_goes}

-- ---- where each cell stands under its uaid, and no two under one

pub record Places (es : List (ℕ × Cell)) : Type 0 where
  pub keys : (e : ℕ × Cell) → In e es → e.0 ≡ e.1.uaid.0
  pub distinct : Distinct key es

any_cons : (b : Bool) (x : FlightRow) (l : Bool) (o : Option FlightRow) → l ≡ is_some o → (b || l) ≡ is_some (cond b (Some x) o)
any_cons true x l o e = refl
any_cons false x l o e = e

any_found : (p : FlightRow → Bool) (xs : List FlightRow) → list_any p xs ≡ is_some (find p xs)
any_found p [] = refl
any_found p (x ∷ xs) = any_cons (p x) x (list_any p xs) (find p xs) (any_found p xs)

-- the first cell with the flight
abbrev pub Holder : Op → List (ℕ × Cell) → FlightRow → Type 0
Holder o es f = (e : ℕ × Cell) × (find (has_flight_in o) es ≡ Some e) × In e es × (flight o e.1 ≡ Some f)

holder_cons : (o : Op) (f : FlightRow) (d : ℕ × Cell) (es : List (ℕ × Cell)) (g : Option FlightRow) → flight o d.1 ≡ g →
    first_of g (flight_among o es) ≡ Some f → (flight_among o es ≡ Some f → Holder o es f) → Holder o (d ∷ es) f
holder_cons o f d es None e h ih =
    let no : has_flight_in o d ≡ false = any_found (is_flight o) d.1.flights ∙ ap is_some e in
    let a = ih h in
    (a.0, rw no a.1, inr a.2, a.3)
holder_cons o f d es (Some g) e h ih =
    let yes : has_flight_in o d ≡ true = any_found (is_flight o) d.1.flights ∙ ap is_some e in
    (d, rw yes refl, inl refl, e ∙ h)

pub holder : (o : Op) (f : FlightRow) (es : List (ℕ × Cell)) → flight_among o es ≡ Some f → Holder o es f
holder o f [] h = cc
holder o f (d ∷ es) h = holder_cons o f d es (flight o d.1) refl h (holder o f es)

none_here : (l : Option FlightRow) → is_some l ≡ false → l ≡ None
none_here None z = refl
none_here (Some x) z = cc

-- no flight of that name stands before
set_cons : (o : Op) (v : Cell) (g : FlightRow) (n : ℕ) (e d : ℕ × Cell) (b y : Bool) (es fs : List (ℕ × Cell)) → at n d.0 ≡ b →
    has_flight_in o d ≡ y → at n e.0 ≡ true → cond y (Some d) (find (has_flight_in o) es) ≡ Some e → flight o v ≡ Some g →
    (find (has_flight_in o) es ≡ Some e → flight_among o fs ≡ Some g) → flight_among o (cond b ((d.0, v) ∷ es) (d ∷ fs)) ≡ Some g
set_cons o v g n e d true y es fs b_is y_is t h k ih = rw k refl
set_cons o v g n e d false true es fs b_is y_is t h k ih =
    let q : d ≡ e = cc in
    let r : at n d.0 ≡ true = ap (λ (z : ℕ × Cell). at n z.0) q ∙ t in
    cc
set_cons o v g n e d false false es fs b_is y_is t h k ih =
    let no : flight o d.1 ≡ None = none_here (flight o d.1) (sym (any_found (is_flight o) d.1.flights) ∙ y_is) in
    rw no (ih h)

set_found : (o : Op) (v : Cell) (g : FlightRow) (n : ℕ) (e : ℕ × Cell) (es : List (ℕ × Cell)) → at n e.0 ≡ true →
    find (has_flight_in o) es ≡ Some e → flight o v ≡ Some g → flight_among o (set_value (at n) es v) ≡ Some g
set_found o v g n e [] t h k = cc
set_found o v g n e (d ∷ es) t h k =
    set_cons o v g n e d (at n d.0) (has_flight_in o d) es (set_value (at n) es v) refl refl t h k (λ q. set_found o v g n e es t q k)

-- each cell is found under its uaid
pub own_lookup : (w : World) (e : ℕ × Cell) → Places w.cells → In e w.cells → lookup (at e.1.uaid.0) w.cells ≡ Some e.1
own_lookup w e p i = subst (λ n. lookup (at n) w.cells ≡ Some e.1) (p.keys e i) (lookup_member e w.cells p.distinct i)

-- the flight goes on in the world
abbrev Owns : Op → FlightRow → World × Reply → Type 0
Owns o f m = Going o f f.stage (flight_at o m.0) m.1

flying : (o : Op) (b : Bool) (fs : List FlightRow) (g : FlightRow) → find (is_flight o) fs ≡ Some g → (b || not (length fs == 0)) ≡ true
flying o b [] g e = cc
flying o true (f ∷ fs) g e = refl
flying o false (f ∷ fs) g e = grind (arith, nat_tests)

-- a cell with a flight is put into the world
put_there : (o : Op) (g : FlightRow) (u : Uaid) (v : Cell) (es : List (ℕ × Cell)) (l : Option Cell) (b : Bool) → b ≡ true → lookup (at u.0) es ≡ l →
    flight_among o (put_beside l u v es) ≡ Some g →
    flight_among o (if b then put_beside (lookup (at u.0) es) u v es else remove_entry (at u.0) es) ≡ Some g
put_there o g u v es l true t e h = subst (λ x. flight_among o (put_beside x u v es) ≡ Some g) (sym e) h
put_there o g u v es l false t e h = cc

there : (o : Op) (g : FlightRow) (u : Uaid) (v : Cell) (es : List (ℕ × Cell)) (l : Option Cell) → flight o v ≡ Some g → lookup (at u.0) es ≡ l →
    flight_among o (put_beside l u v es) ≡ Some g → flight_among o (with_cell u v es) ≡ Some g
there o g u v es l f e h = put_there o g u v es l (is_there v) (flying o (is_some v.user) v.flights g f) e h

cell_goes : (o : Op) (f : FlightRow) (w : World) (e : ℕ × Cell) (m : Outcome) → at e.1.uaid.0 e.0 ≡ true → find (has_flight_in o) w.cells ≡ Some e →
    lookup (at e.1.uaid.0) w.cells ≡ Some e.1 → Going o f f.stage (flight o m.cell) m.reply → Owns o f (settled w e.1.uaid m)
cell_goes o f w e m t h l k =
    record {
      within = k.within;
      onward = λ u z. there o (at_stage u f) e.1.uaid m.cell w.cells (Some e.1) (k.onward u z) l
          (set_found o m.cell (at_stage u f) e.1.uaid.0 e w.cells t h (k.onward u z));
    }

flight_goes : (o : Op) (f : FlightRow) (w : World) (run : Cell → Outcome) → Places w.cells → flight_at o w ≡ Some f →
    ((c : Cell) → flight o c ≡ Some f → Going o f f.stage (flight o (run c).cell) (run c).reply) → Owns o f (on_flight w o run)
flight_goes o f w run p h k =
    let a = holder o f w.cells h in
    let e = a.0 in
    let same : e.0 ≡ e.1.uaid.0 = p.keys e a.2 in
    let l = own_lookup w e p a.2 in
    let c : cell_at w.cells e.1.uaid ≡ e.1 = ap (λ x. found_or_empty x e.1.uaid) l in
    let t : at e.1.uaid.0 e.0 ≡ true = at_same e.1.uaid.0 e.0 same in
    subst (λ z. Owns o f (on_flight_of z w run)) (sym a.1)
    (cell_goes o f w e (run (cell_at w.cells e.1.uaid)) t a.1 l (k (cell_at w.cells e.1.uaid) (ap (flight o) c ∙ a.3)))

-- a step of the flight k, where k is o
named_goes : (o k : Op) (f : FlightRow) (w : World) (run : Op → Cell → Outcome) → k ≡ o → Places w.cells → flight_at o w ≡ Some f →
    ((c : Cell) → flight o c ≡ Some f → Going o f f.stage (flight o (run o c).cell) (run o c).reply) → Owns o f (on_flight w k (run k))
named_goes o k f w run e p h g = subst (λ z. Owns o f (on_flight w z (run z))) (sym e) (flight_goes o f w (run o) p h g)

made_goes : (o : Op) (f : FlightRow) (w : World) (x : Step) → Places w.cells → flight_at o w ≡ Some f → IsDue o x f.stage → Owns o f (made w x)
made_goes o f w (Direct k) p h d = named_goes o k f w (direct w.clock) d.0 p h (λ c e. direct_goes w.clock o f c e d.1)
made_goes o f w (Store k) p h d = named_goes o k f w (store w.clock) d.0 p h (λ c e. store_goes w.clock o f c e d.1)
made_goes o f w (GiveUp k) p h d = named_goes o k f w give_up d.0 p h (λ c e. give_up_goes o f c e d.1)
made_goes o f w (Reread (OfFlight k)) p h d = named_goes o k f w reread d.0 p h (λ c e. reread_goes o f c e d.1)
made_goes o f w (Nudge (OfFlight k)) p h d = named_goes o k f w nudge d.0 p h (λ c e. nudge_goes o f c e d.1)
made_goes o f w (Heard (OfFlight k)) p h d = named_goes o k f w heard d.0 p h (λ c e. heard_goes o f c e d.1)
made_goes o f w (Lost (OfFlight k)) p h d = named_goes o k f w lost d.0 p h (λ c e. lost_goes o f c e d.1)
made_goes o f w (Clear (OfFlight k)) p h d = named_goes o k f w clear d.0 p h (λ c e. clear_goes o f c e d.1)
made_goes o f w x p h d = absurd d

-- ---- Begin

-- no stage turns
abbrev Never : Stage → Stage → Type 0
Never s t = ⊥

find_last : (p : FlightRow → Bool) (f : FlightRow) (b : Bool) (x : FlightRow) (xs : List FlightRow) → cond b (Some x) (find p xs) ≡ None →
    (find p xs ≡ None → find p (xs ++ f ∷ []) ≡ Some f) → cond b (Some x) (find p (xs ++ f ∷ [])) ≡ Some f
find_last p f true x xs h ih = cc
find_last p f false x xs h ih = ih h

found_last : (p : FlightRow → Bool) (f : FlightRow) (xs : List FlightRow) → p f ≡ true → find p xs ≡ None → find p (xs ++ f ∷ []) ≡ Some f
found_last p f [] e h = rw e refl
found_last p f (x ∷ xs) e h = find_last p f (p x) x xs h (λ q. found_last p f xs e q)

own_flight : (o : Op) (m : MessageValue) (t : Token) (s : Stage) → is_flight o (record { op = o; message = m; token = t; stage = s }) ≡ true
own_flight o m t s = grind (arith, nat_tests)

no_holder : (o : Op) (e : ℕ × Cell) → has_flight_in o e ≡ false → flight o e.1 ≡ None
no_holder o e h = none_here (flight o e.1) (sym (any_found (is_flight o) e.1.flights) ∙ h)

nowhere_cons : (o : Op) (d : ℕ × Cell) (b : Bool) (es : List (ℕ × Cell)) → has_flight_in o d ≡ b →
    cond b (Some d) (find (has_flight_in o) es) ≡ None → (find (has_flight_in o) es ≡ None → flight_among o es ≡ None) →
    first_of (flight o d.1) (flight_among o es) ≡ None
nowhere_cons o d true es e h ih = cc
nowhere_cons o d false es e h ih = let no = no_holder o d e in rw no (ih h)

nowhere : (o : Op) (es : List (ℕ × Cell)) → find (has_flight_in o) es ≡ None → flight_among o es ≡ None
nowhere o [] h = refl
nowhere o (d ∷ es) h = nowhere_cons o d (has_flight_in o d) es refl h (nowhere o es)

new_cons : (o : Op) (v : Cell) (g : FlightRow) (b : Bool) (c : Cell) (d : ℕ × Cell) (f : Option FlightRow) (l : Option Cell)
    (es fs : List (ℕ × Cell)) → flight o d.1 ≡ f → first_of f (flight_among o es) ≡ None → cond b (Some d.1) l ≡ Some c → flight o v ≡ Some g →
    (flight_among o es ≡ None → l ≡ Some c → flight_among o fs ≡ Some g) → flight_among o (cond b ((d.0, v) ∷ es) (d ∷ fs)) ≡ Some g
new_cons o v g true c d f l es fs e n h k ih = rw k refl
new_cons o v g false c d None l es fs e n h k ih = rw e (ih n h)
new_cons o v g false c d (Some x) l es fs e n h k ih = cc

set_new : (o : Op) (v : Cell) (g : FlightRow) (n : ℕ) (c : Cell) (es : List (ℕ × Cell)) → flight_among o es ≡ None → lookup (at n) es ≡ Some c →
    flight o v ≡ Some g → flight_among o (set_value (at n) es v) ≡ Some g
set_new o v g n c [] h l k = cc
set_new o v g n c (d ∷ es) h l k =
    new_cons o v g (at n d.0) c d (flight o d.1) (lookup (at n) es) es (set_value (at n) es v) refl h l k (λ a b. set_new o v g n c es a b k)

abbrev BeginsAs : Op → Token → AskValue → World × Reply → Type 0
BeginsAs o t a m = IsBegun o t a m.1 (flight_at o m.0)

-- the new flight stands behind the others of its cell
new_flight : (o : Op) (t : Token) (m : MessageValue) (s : Stage) (w : World) (u : Uaid) (c : Cell) → flight_at o w ≡ None →
    lookup (at u.0) w.cells ≡ Some c → flight o c ≡ None →
    flight_among o (with_cell u (with_flight o t m s c) w.cells) ≡ Some (record { op = o; message = m; token = t; stage = s })
new_flight o t m s w u c h l n =
    let f : FlightRow = record { op = o; message = m; token = t; stage = s } in
    let is : flight o (with_flight o t m s c) ≡ Some f = found_last (is_flight o) f c.flights (own_flight o m t s) n in
    there o f u (with_flight o t m s c) w.cells (Some c) is l (set_new o (with_flight o t m s c) f u.0 c w.cells h l is)

begun_as : (o : Op) (t : Token) (m : MessageValue) (w : World) (u : Uaid) (c : Cell) (p : Option (ℕ × ℕ)) (b : Bool) → (m.ask.terms.ttl == 0) ≡ b →
    flight_at o w ≡ None → lookup (at u.0) w.cells ≡ Some c → flight o c ≡ None → BeginsAs o t m.ask (settled w u (begin_to p o t m c))
begun_as o t m w u c (Some p) b e h l n = record { message = m; id = refl; ask = refl; is = new_flight o t m (AtDirect p.0 p.1) w u c h l n }
begun_as o t m w u c None true e h l n =
    rw (e, e)
    (left_absent Never _ (subst (λ z. IsLeft Never z (flight_among o (with_cell u c w.cells))) h
    (with_cell_left Never o u c w.cells (left_same Never (flight o (cell_at w.cells u)) (flight o c) (ap (λ x. flight o (found_or_empty x u)) (sym l))))))
begun_as o t m w u c None false e h l n = rw (e, e) (record { message = m; id = refl; ask = refl; is = new_flight o t m AtStore w u c h l n })

begun_numbered : (o : Op) (t : Token) (a : AskValue) (w : World) (e : ℕ × Cell) (x : Channel) (b : Bool) → Places w.cells → In e w.cells →
    find (has_flight_in o) w.cells ≡ None →
    BeginsAs o t a (if b then (w, IdsSpent) else on_cell (record w { next = w.next + 1 }) e.1.uaid (begin o t (new_message w e.1 x.chid a)))
begun_numbered o t a w e x true p i h = tt
begun_numbered o t a w e x false p i h =
    let m = new_message w e.1 x.chid a in
    let v : World = record w { next = w.next + 1 } in
    let l = own_lookup w e p i in
    let c : cell_at w.cells e.1.uaid ≡ e.1 = ap (λ z. found_or_empty z e.1.uaid) l in
    let no = no_holder o e (none_found (has_flight_in o) w.cells h e i) in
    subst (λ z. BeginsAs o t a (settled v e.1.uaid (begin o t m z))) (sym c)
    (begun_as o t m v e.1.uaid e.1 (routed_place e.1.user) (a.terms.ttl == 0) refl (nowhere o w.cells h) l no)

begun_channel : (o : Op) (t : Token) (a : AskValue) (w : World) (e : ℕ × Cell) (x : Option Channel) → Places w.cells → In e w.cells →
    find (has_flight_in o) w.cells ≡ None → BeginsAs o t a (begin_on x w o t a e.1)
begun_channel o t a w e None p i h = tt
begun_channel o t a w e (Some x) p i h = begun_numbered o t a w e x (w.next == 2 ^ 63) p i h

begun_token : (o : Op) (t : Token) (a : AskValue) (w : World) (e : Option (ℕ × Cell)) → Places w.cells → find (has_token_in t) w.cells ≡ e →
    find (has_flight_in o) w.cells ≡ None → BeginsAs o t a (begin_for e w o t a)
begun_token o t a w None p k h = tt
begun_token o t a w (Some e) p k h = begun_channel o t a w e (find (is_token t) (channels_of e.1.user)) p (find_in (has_token_in t) e w.cells k) h

begun_used : (o : Op) (t : Token) (a : AskValue) (w : World) (g : Option FlightRow) (f : Option FlightRow) → IsBegun o t a (stage_reply f) g
begun_used o t a w g None = tt
begun_used o t a w g (Some f) = tt

begun_beside : (o : Op) (t : Token) (a : AskValue) (w : World) (e : Option (ℕ × Cell)) → Places w.cells → find (has_flight_in o) w.cells ≡ e →
    BeginsAs o t a (begin_beside e w o t a)
begun_beside o t a w None p h = begun_token o t a w (find (has_token_in t) w.cells) p refl h
begun_beside o t a w (Some e) p h = begun_used o t a w (flight_at o w) (find (is_flight o) e.1.flights)

pub begun : (w : World) (o : Op) (t : Token) (a : AskValue) → Places w.cells →
    IsBegun o t a (step w (Begin o t a)).1 (flight_at o (step w (Begin o t a)).0)
begun w o t a p = begun_beside o t a w (find (has_flight_in o) w.cells) p refl

-- ---- each reached world is placed so

pub places : (w : World) → IsReached w → Places w.cells
places w r = let s = (known w r).in_step.sound in record { keys = s.keys; distinct = s.distinct }

pub not_refused : (w : World) (o : Op) (f : FlightRow) (x : Step) → Places w.cells → flight_at o w ≡ Some f → IsDue o x f.stage →
    is_refusal (step w x).1 ≡ false
not_refused w o f x p h d = (made_goes o f w x p h d).within

pub goes_on : (w : World) (o : Op) (f : FlightRow) (x : Step) (t : Stage) → Places w.cells → flight_at o w ≡ Some f → IsDue o x f.stage →
    stage_after (step w x).1 f.stage ≡ Some t → flight_at o (step w x).0 ≡ Some (at_stage t f)
goes_on w o f x t p h d e = (made_goes o f w x p h d).onward t e

-- ---- where there is no flight of that name

first_none_right : (f g : Option FlightRow) → first_of f g ≡ None → g ≡ None
first_none_right None g h = h
first_none_right (Some f) g h = cc

first_none_left : (f g : Option FlightRow) → first_of f g ≡ None → f ≡ None
first_none_left None g h = refl
first_none_left (Some f) g h = cc

pub no_entry : (o : Op) (es : List (ℕ × Cell)) → flight_among o es ≡ None → find (has_flight_in o) es ≡ None
no_entry o [] h = refl
no_entry o (d ∷ es) h =
    let no : has_flight_in o d ≡ false = any_found (is_flight o) d.1.flights ∙ ap is_some (first_none_left (flight o d.1) (flight_among o es) h) in
    rw no (no_entry o es (first_none_right (flight o d.1) (flight_among o es) h))

-- the reply is no stage
abbrev Unstaged : Reply → Type 0
Unstaged r = (s : Stage) → r ≢ StageIs s

unstaged_to : (o : Op) (t : Token) (m : MessageValue) (c : Cell) (p : Option (ℕ × ℕ)) (b : Bool) → (m.ask.terms.ttl == 0) ≡ b →
    Unstaged (begin_to p o t m c).reply
unstaged_to o t m c (Some p) b e = λ s q. cc
unstaged_to o t m c None true e = rw e (λ s q. cc)
unstaged_to o t m c None false e = rw e (λ s q. cc)

unstaged_numbered : (o : Op) (t : Token) (a : AskValue) (w : World) (c : Cell) (x : Channel) (b : Bool) →
    Unstaged (if b then (w, IdsSpent) else on_cell (record w { next = w.next + 1 }) c.uaid (begin o t (new_message w c x.chid a))).1
unstaged_numbered o t a w c x true = λ s q. cc
unstaged_numbered o t a w c x false =
    let d = cell_at w.cells c.uaid in
    unstaged_to o t (new_message w c x.chid a) d (routed_place d.user) (a.terms.ttl == 0) refl

unstaged_channel : (o : Op) (t : Token) (a : AskValue) (w : World) (c : Cell) (x : Option Channel) → Unstaged (begin_on x w o t a c).1
unstaged_channel o t a w c None = λ s q. cc
unstaged_channel o t a w c (Some x) = unstaged_numbered o t a w c x (w.next == 2 ^ 63)

unstaged_token : (o : Op) (t : Token) (a : AskValue) (w : World) (e : Option (ℕ × Cell)) → Unstaged (begin_for e w o t a).1
unstaged_token o t a w None = λ s q. cc
unstaged_token o t a w (Some e) = unstaged_channel o t a w e.1 (find (is_token t) (channels_of e.1.user))

pub unused : (o : Op) (t : Token) (a : AskValue) (w : World) (s : Stage) → flight_at o w ≡ None → (step w (Begin o t a)).1 ≢ StageIs s
unused o t a w s h =
    subst (λ z. (begin_beside z w o t a).1 ≢ StageIs s) (sym (no_entry o w.cells h)) (unstaged_token o t a w (find (has_token_in t) w.cells) s)
