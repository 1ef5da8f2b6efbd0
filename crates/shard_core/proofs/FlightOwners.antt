-- Flights, as the index of whose they are knows them.
use Rattle.std.proofs.Common.{◌≡◌, ℕ, Bool, true, false, cond, not, ◌||◌, ◌⊎◌, inl, inr, List, [], ◌∷◌, length, refl, ap, sym, subst, ◌∙◌, Ordering, Less, Equal, Greater, arith}
use Rattle.std.specs.Prelude.{Option, Some, None, is_some, Result, Ok, Err, IfOk, OnErr, ◌==◌, if◌then◌else◌}
use Rattle.std.specs.List.{list_any}
use Rattle.std.specs.Map.{lookup}
use Rattle.std.specs.Ordering.{nat_cmp, is_eq, ordering_then}
use Rattle.std.specs.BTreeMap.{is_at}
use Rattle.std.proofs.lemmas.Map.Lookups.{exact_pairs, exact_unsigned}
use Rattle.std.proofs.lemmas.Bool.Decides.{nat_tests}
use Rattle.push_model.specs.declared.ids.Op.{Op}
use Rattle.push_model.specs.declared.ids.Token.{Token}
use Rattle.push_model.specs.declared.ids.Uaid.{Uaid}
use Rattle.push_model.specs.declared.parts.FlightRow.{FlightRow}
use Rattle.push_model.specs.declared.reply.Reply.{Reply}
use Rattle.push_model.specs.declared.step.Step.{Step}
use Rattle.push_model.specs.Names.{is_same_op}
use Rattle.push_model.specs.MessageValue.{MessageValue}
use Rattle.push_model.specs.Cells.{Cell, is_flight, is_there, routed_place}
use Rattle.push_model.specs.Outcomes.{Outcome, outcome}
use Rattle.push_model.specs.Kinds.{costs_memory}
use Rattle.push_model.specs.FlightSteps.{begin, begin_to}
use Rattle.push_model.specs.Steps.{OnUser, action}
use Rattle.push_model.specs.Worlds.{cell_at}
use Rattle.push_model.proofs.Members.{In, among, in-append_left, list_any-in}
use Rattle.push_model.proofs.Narrow.{BegunBy, Last, NarrowBegun, Unkept, begin_narrow, flight_from, narrowed, op_from}
use Rattle.shard_core.specs.Made.{Puts, StepsTo}
use Rattle.shard_core.specs.Owners.{IsComplete, IsSound, NamesHolder, ended, flight_owner, has_flight, owned}
use Rattle.shard_core.proofs.Ending.{goes_on, op_is}
use Rattle.shard_core.proofs.Owners.{Forgot, NoneHas, complete_at, complete_put, complete_changed, forgot_gone, forgot_kept, forgot_sound, holder_put, holder_same, lost_sound}

-- ---- the index

equal : (r : Ordering) → is_eq r ≡ true → r ≡ Equal
equal Less e = absurd (cc e)
equal Equal e = refl
equal Greater e = absurd (cc e)

-- the key of the flight k
abbrev at_op : Op → ℕ × ℕ → Bool
at_op k q = is_at (λ x. ordering_then (nat_cmp k.pass x.0) (nat_cmp k.k x.1)) q

op_found : (k q : Op) → at_op k (q.pass, q.k) ≡ true → q ≡ k
op_found k q e =
    let pair : (k.pass, k.k) ≡ (q.pass, q.k) = exact_pairs nat_cmp nat_cmp exact_unsigned exact_unsigned (k.pass, k.k) (q.pass, q.k) (equal _ e) in
    let op : Op = k in
    ap (λ (p : ℕ × ℕ). record op { pass = p.0; k = p.1 }) (sym pair)

-- where no cell has the flight, any owner may be written for it
pub flight_changes : (old new : List ((ℕ × ℕ) × ℕ)) (k : Op) (w : Option ℕ) (es : List (ℕ × Cell)) →
    ((q : ℕ × ℕ) → lookup (is_at (λ x. ordering_then (nat_cmp q.0 x.0) (nat_cmp q.1 x.1))) new ≡ cond (at_op k q) w (lookup (is_at (λ x. ordering_then (nat_cmp q.0 x.0) (nat_cmp q.1 x.1))) old)) →
    NoneHas has_flight k es → IsComplete has_flight (flight_owner old) es → IsComplete has_flight (flight_owner new) es
flight_changes old new k w es changes none h =
    complete_changed has_flight (flight_owner old) (flight_owner new) k (λ q. at_op k (q.pass, q.k)) w es (op_found k) (λ q. changes (q.pass, q.k)) none h

same_key : (k : Op) → at_op k (k.pass, k.k) ≡ true
same_key k = grind (arith, nat_tests)

same_name : (k : Op) → is_same_op k k ≡ true
same_name k = grind (arith, nat_tests)

both_ways : (a b : Bool) → (a ≡ true → b ≡ true) → (b ≡ true → a ≡ true) → a ≡ b
both_ways true b f g = sym (f refl)
both_ways false true f g = g refl
both_ways false false f g = refl

-- the key of a flight is its name
key_is_name : (k q : Op) → at_op k (q.pass, q.k) ≡ is_same_op q k
key_is_name k q =
    both_ways (at_op k (q.pass, q.k)) (is_same_op q k)
    (λ e. subst (λ (z : Op). is_same_op z k ≡ true) (sym (op_found k q e)) (same_name k))
    (λ e. subst (λ (z : Op). at_op k (z.pass, z.k) ≡ true) (op_is k q e) (same_key k))

-- the rows after op was written, or taken out
abbrev pub Changes : Op → Option ℕ → List ((ℕ × ℕ) × ℕ) → List ((ℕ × ℕ) × ℕ) → Type 0
Changes k w old new =
    (q : ℕ × ℕ) → lookup (is_at (λ x. ordering_then (nat_cmp q.0 x.0) (nat_cmp q.1 x.1))) new ≡ cond (at_op k q) w (lookup (is_at (λ x. ordering_then (nat_cmp q.0 x.0) (nat_cmp q.1 x.1))) old)

changed_at : (old new : List ((ℕ × ℕ) × ℕ)) (k q : Op) (w : Option ℕ) → Changes k w old new →
    flight_owner new q ≡ (if is_same_op q k then w else flight_owner old q)
changed_at old new k q w changes = changes (q.pass, q.k) ∙ ap (λ (b : Bool). cond b w (flight_owner old q)) (key_is_name k q)

same_as : (k q : Op) → is_same_op q k ≡ true → q ≡ k
same_as k q e = sym (op_is k q e)

-- the index after the flight k was forgotten, unless the cell that it names has it
abbrev pub ForgotFlight : Op → List ((ℕ × ℕ) × ℕ) → List ((ℕ × ℕ) × ℕ) → List (ℕ × Cell) → Type 0
ForgotFlight k old new es = Forgot has_flight k (λ q. is_same_op q k) (flight_owner old) (flight_owner new) es

pub flight_gone : (old new : List ((ℕ × ℕ) × ℕ)) (k : Op) (es : List (ℕ × Cell)) → Changes k None old new →
    owned (has_flight k) (flight_owner old k) es ≡ None → ForgotFlight k old new es
flight_gone old new k es changes none =
    forgot_gone has_flight (flight_owner old) (flight_owner new) k (λ q. is_same_op q k) es (λ q. changed_at old new k q None changes) none

pub flight_kept : (old : List ((ℕ × ℕ) × ℕ)) (k : Op) (es : List (ℕ × Cell)) → is_some (owned (has_flight k) (flight_owner old k) es) ≡ true →
    ForgotFlight k old old es
flight_kept old k es some = forgot_kept has_flight (flight_owner old) k (λ q. is_same_op q k) es (same_as k) some

-- it is sound, where k is the one that ended, and it was sound but for that
pub ended_sound : (old new : List ((ℕ × ℕ) × ℕ)) (o : Option Op) (k : Op) (es : List (ℕ × Cell)) → o ≡ Some k → ForgotFlight k old new es →
    ((q : Op) → (o ≡ Some q) ⊎ NamesHolder has_flight (flight_owner old) es q) → IsSound has_flight (flight_owner new) es
ended_sound old new o k es is left held =
    lost_sound has_flight (flight_owner old) (flight_owner new) o k (λ q. is_same_op q k) es is (same_name k) (same_as k) left held

-- ---- the cells

-- a cell with a flight is there
flying_there : (b : Bool) (k : Op) (fs : List FlightRow) → list_any (is_flight k) fs ≡ true → (b || not (length fs == 0)) ≡ true
flying_there true k fs h = refl
flying_there false k [] h = absurd (cc h)
flying_there false k (f ∷ fs) h = grind (arith, nat_tests)

flight_there : (k : Op) (c : Cell) → has_flight k c ≡ true → (has_flight k c ≡ true) × (is_there c ≡ true)
flight_there k c h = (h, flying_there (is_some c.user) k c.flights h)

-- each flight after a step was there before
pub flights_step : (owner : Op → Option ℕ) (moment : ℕ) (x : Step) (u : Uaid) (es fs : List (ℕ × Cell)) (r : Reply) → StepsTo (action moment x) u es fs r →
    IsComplete has_flight owner es → IsComplete has_flight owner fs
flights_step owner moment x u es fs r h old =
    let c = cell_at es u in
    complete_put has_flight owner u h.cell es fs h.puts old
    (λ o e. complete_at has_flight owner u es (λ k. refl) old o (op_from o c.flights h.cell.flights (narrowed moment x c _ h.does).flights e))

holder_by : (owner : Op → Option ℕ) (x : Step) (u : Uaid) (v : Cell) (es fs : List (ℕ × Cell)) (r : Reply) (k : Op) (b : Bool) → has_flight k (cell_at es u) ≡ b →
    Puts u v es fs → (has_flight k (cell_at es u) ≡ true → (ended x r ≡ Some k) ⊎ (has_flight k v ≡ true)) → NamesHolder has_flight owner es k →
    (ended x r ≡ Some k) ⊎ NamesHolder has_flight owner fs k
holder_by owner x u v es fs r k true e p goes old =
    elim (goes e) [
      | inl q ↦ inl q
      | inr h ↦ inr (holder_put has_flight owner u v es fs k p (λ i. flight_there k v h) old)
    ]
holder_by owner x u v es fs r k false e p goes old = inr (holder_put has_flight owner u v es fs k p (λ i. absurd (cc (e, i))) old)

-- and each flight that was there stays, but for the one that ended
pub holders_step : (owner : Op → Option ℕ) (moment : ℕ) (x : Step) (u : Uaid) (es fs : List (ℕ × Cell)) (r : Reply) → StepsTo (action moment x) u es fs r →
    IsSound has_flight owner es → (k : Op) → (ended x r ≡ Some k) ⊎ NamesHolder has_flight owner fs k
holders_step owner moment x u es fs r h old k =
    let c = cell_at es u in
    holder_by owner x u h.cell es fs r k (has_flight k c) refl h.puts (goes_on moment x c (outcome h.cell r) k h.does) (old k)

begun_named : (owner : Op → Option ℕ) (u : Uaid) (o : Op) (t : Token) (m : MessageValue) (c v : Cell) → NarrowBegun o t m c v → owner o ≡ Some u.0 →
    ((k : Op) → has_flight k c ≡ true → owner k ≡ Some u.0) → (k : Op) → has_flight k v ≡ true → owner k ≡ Some u.0
begun_named owner u o t m c v h named old k e =
    let g = among (is_flight k) v.flights e in
    elim (flight_from o t m c.flights v.flights g.one h.flights g.member) [
      | inl i ↦ old k (list_any-in (is_flight k) g.one c.flights i g.passes)
      | inr q ↦ ap owner (op_is k o (subst (λ z. is_same_op z k ≡ true) q.0 g.passes)) ∙ named
    ]

-- or is the one that is begun
pub flights_begun : (owner : Op → Option ℕ) (u : Uaid) (o : Op) (t : Token) (m : MessageValue) (es fs : List (ℕ × Cell)) (r : Reply) →
    StepsTo (OnUser u (begin o t m)) u es fs r → owner o ≡ Some u.0 → IsComplete has_flight owner es → IsComplete has_flight owner fs
flights_begun owner u o t m es fs r h named old =
    let c = cell_at es u in
    let narrow : NarrowBegun o t m c h.cell = subst (λ (q : Outcome). NarrowBegun o t m c q.cell) h.does (begin_narrow o t m c) in
    complete_put has_flight owner u h.cell es fs h.puts old
    (begun_named owner u o t m c h.cell narrow named (complete_at has_flight owner u es (λ k. refl) old))

-- made or refused for want of memory
pub begun_or_not : {E : Type 0} (result : Result Reply E) (owner : Op → Option ℕ) (u : Uaid) (o : Op) (t : Token) (m : MessageValue) (es fs : List (ℕ × Cell))
    (P : Type 0) → IfOk result (λ r. StepsTo (OnUser u (begin o t m)) u es fs r) → OnErr result ((fs ≡ es) × P) → owner o ≡ Some u.0 →
    IsComplete has_flight owner es → IsComplete has_flight owner fs
begun_or_not (Ok r) owner u o t m es fs P ok err named old = flights_begun owner u o t m es fs r ok named old
begun_or_not (Err x) owner u o t m es fs P ok err named old = subst (IsComplete has_flight owner) (sym err.0) old

-- a flight that is begun leaves the others
begun_keeps : (o : Op) (t : Token) (m : MessageValue) (k : Op) (fs gs : List FlightRow) → BegunBy o t m fs gs → list_any (is_flight k) fs ≡ true →
    list_any (is_flight k) gs ≡ true
begun_keeps o t m k fs gs (Unkept e) h = ap (list_any (is_flight k)) e ∙ h
begun_keeps o t m k fs gs (Last stage e) h =
    let f = among (is_flight k) fs h in
    list_any-in (is_flight k) f.one gs (subst (In f.one) (sym e) (in-append_left f.one fs _ f.member)) f.passes

holder_begun : (owner : Op → Option ℕ) (u : Uaid) (o : Op) (t : Token) (m : MessageValue) (es fs : List (ℕ × Cell)) (r : Reply) →
    StepsTo (OnUser u (begin o t m)) u es fs r → (k : Op) → NamesHolder has_flight owner es k → NamesHolder has_flight owner fs k
holder_begun owner u o t m es fs r h k old =
    let c = cell_at es u in
    let narrow : NarrowBegun o t m c h.cell = subst (λ (q : Outcome). NarrowBegun o t m c q.cell) h.does (begin_narrow o t m c) in
    holder_put has_flight owner u h.cell es fs k h.puts (λ e. flight_there k h.cell (begun_keeps o t m k c.flights h.cell.flights narrow.flights e)) old

holder_or_not : {E : Type 0} (result : Result Reply E) (owner : Op → Option ℕ) (u : Uaid) (o : Op) (t : Token) (m : MessageValue) (es fs : List (ℕ × Cell))
    (P : Type 0) → IfOk result (λ r. StepsTo (OnUser u (begin o t m)) u es fs r) → OnErr result ((fs ≡ es) × P) → (k : Op) →
    NamesHolder has_flight owner es k → NamesHolder has_flight owner fs k
holder_or_not (Ok r) owner u o t m es fs P ok err k old = holder_begun owner u o t m es fs r ok k old
holder_or_not (Err x) owner u o t m es fs P ok err k old = subst (λ (ds : List (ℕ × Cell)). NamesHolder has_flight owner ds k) (sym err.0) old

other_owner : (old new : List ((ℕ × ℕ) × ℕ)) (k q : Op) (w : Option ℕ) → Changes k w old new → is_same_op q k ≡ false →
    flight_owner new q ≡ flight_owner old q
other_owner old new k q w changes ne =
    changed_at old new k q w changes ∙ ap (λ (b : Bool). if b then w else flight_owner old q) ne

-- the index after a Begin: its flight was noted, and then forgotten where it isn't there
pub begun_sound : {E : Type 0} (result : Result Reply E) (old noted new : List ((ℕ × ℕ) × ℕ)) (u : Uaid) (o : Op) (t : Token) (m : MessageValue) (w : Option ℕ)
    (es fs : List (ℕ × Cell)) (P : Type 0) → IfOk result (λ r. StepsTo (OnUser u (begin o t m)) u es fs r) → OnErr result ((fs ≡ es) × P) →
    Changes o w old noted → ForgotFlight o noted new fs → IsSound has_flight (flight_owner old) es → IsSound has_flight (flight_owner new) fs
begun_sound result old noted new u o t m w es fs P ok err changes left held =
    forgot_sound has_flight (flight_owner noted) (flight_owner new) o (λ q. is_same_op q o) fs (same_as o) left
    (λ q ne. holder_or_not result (flight_owner noted) u o t m es fs P ok err q
    (holder_same has_flight (flight_owner old) (flight_owner noted) es q (other_owner old noted o q w changes ne) (held q)))

-- ---- what a Begin costs

costs_either : (b : Bool) (p q : Outcome) → costs_memory p.reply ≡ true → costs_memory q.reply ≡ true → costs_memory (if b then p else q).reply ≡ true
costs_either true p q h i = h
costs_either false p q h i = i

costs_to : (p : Option (ℕ × ℕ)) (o : Op) (t : Token) (m : MessageValue) (c : Cell) → costs_memory (begin_to p o t m c).reply ≡ true
costs_to (Some p) o t m c = refl
costs_to None o t m c = costs_either (m.ask.terms.ttl == 0) _ _ refl refl

pub begin_costs : (o : Op) (t : Token) (m : MessageValue) (c : Cell) → costs_memory (begin o t m c).reply ≡ true
begin_costs o t m c = costs_to (routed_place c.user) o t m c
