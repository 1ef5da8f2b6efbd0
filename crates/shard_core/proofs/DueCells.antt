-- Moments below which no row is due, as the cells change.
use Rattle.std.proofs.Common.{◌≡◌, ℕ, ◌<◌, ◌≤◌, Bool, true, false, cond, ◌||◌, inl, inr, List, [], ◌∷◌, ◌++◌, refl, ap, sym, subst, ◌∙◌, min, arith}
use Rattle.std.specs.Prelude.{Option, Some, None, IfSome, map, option_map, if◌then◌else◌}
use Rattle.std.specs.List.{list_any}
use Rattle.std.specs.Map.{lookup, values_of}
use Rattle.std.specs.Ordering.{nat_cmp}
use Rattle.std.specs.BTreeMap.{is_at}
use Rattle.std.proofs.lemmas.Map.Made.{lookup-map_values}
use Rattle.std.proofs.lemmas.Bool.Decides.{nat_tests}
use Rattle.push_model.specs.declared.ids.Uaid.{Uaid}
use Rattle.push_model.specs.declared.parts.Row.{Row}
use Rattle.push_model.specs.Cells.{Cell, Saver, User, rows_of, is_there}
use Rattle.push_model.specs.ClockSteps.{ticked, without_due}
use Rattle.push_model.specs.NodeSteps.{orphaned, with_orphans, killed}
use Rattle.push_model.specs.declared.ids.Op.{Op}
use Rattle.push_model.specs.declared.ids.Token.{Token}
use Rattle.push_model.specs.declared.reply.Reply.{Reply}
use Rattle.push_model.specs.MessageValue.{MessageValue}
use Rattle.push_model.specs.Outcomes.{Outcome}
use Rattle.push_model.specs.FlightSteps.{begin}
use Rattle.push_model.specs.Steps.{OnUser}
use Rattle.push_model.specs.Worlds.{World, cell_at, each, found_or_empty}
use Rattle.push_model.proofs.Narrow.{begin_narrow}
use Rattle.push_model.specs.Reached.{IsReached}
use Rattle.push_model.proofs.Members.{In}
use Rattle.push_model.proofs.Reached.{reached_there}
use Rattle.message_rows.specs.RowStock.{is_past}
use Rattle.message_rows.proofs.DueRows.{filter-none_past}
use Rattle.shard_core.specs.Made.{standing, Puts, StepsTo}
use Rattle.shard_core.specs.Dues.{NoneDue, NoneDueIn}

-- the cell that is found, or any
abbrev DueAt : ℕ → Option Cell → Type 0
DueAt t o = IfSome o (NoneDue t)

sooner_cell : (s t : ℕ) (o : Option Cell) → s ≤ t → DueAt t o → DueAt s o
sooner_cell s t None le h = tt
sooner_cell s t (Some c) le h = λ moment lt. h moment (omega arith)

-- ---- the cell of one user

-- another cell stays, and the user's own has the moment of its own
by_key : (u : Uaid) (s t n : ℕ) (b : Bool) (v : Option Cell) (es fs : List (ℕ × Cell)) → is_at (nat_cmp u.0) n ≡ b →
    lookup (is_at (nat_cmp n)) fs ≡ (if b then v else lookup (is_at (nat_cmp n)) es) →
    DueAt s (lookup (is_at (nat_cmp n)) es) → DueAt t (lookup (is_at (nat_cmp u.0)) fs) → DueAt (min s t) (lookup (is_at (nat_cmp n)) fs)
by_key u s t n true v es fs e h old new =
    let same : n ≡ u.0 = grind (arith, nat_tests) in
    subst (λ k. DueAt (min s t) (lookup (is_at (nat_cmp k)) fs)) (sym same)
    (sooner_cell (min s t) t (lookup (is_at (nat_cmp u.0)) fs) (omega arith) new)
by_key u s t n false v es fs e h old new =
    subst (DueAt (min s t)) (sym h) (sooner_cell (min s t) s (lookup (is_at (nat_cmp n)) es) (omega arith) old)

pub due_put : (u : Uaid) (v : Cell) (s t : ℕ) (es fs : List (ℕ × Cell)) → Puts u v es fs → NoneDueIn s es → DueAt t (lookup (is_at (nat_cmp u.0)) fs) →
    NoneDueIn (min s t) fs
due_put u v s t es fs p old new = λ n. by_key u s t n (is_at (nat_cmp u.0) n) (standing v) es fs refl (p.updates n) (old n) new

either : (b there : Bool) (s : ℕ) (v : Cell) (o : Option Cell) → DueAt s o → NoneDue s v → DueAt s (if b then (if there then Some v else None) else o)
either true true s v o old new = new
either true false s v o old new = tt
either false there s v o old new = old

-- whose rows stay
pub due_same : (u : Uaid) (v : Cell) (s : ℕ) (es fs : List (ℕ × Cell)) → Puts u v es fs → NoneDueIn s es → NoneDue s v → NoneDueIn s fs
due_same u v s es fs p old new = λ n. subst (DueAt s) (sym (p.updates n)) (either (is_at (nat_cmp u.0) n) (is_there v) s v (lookup (is_at (nat_cmp n)) es) (old n) new)

due_found : (s : ℕ) (u : Uaid) (o : Option Cell) → DueAt s o → NoneDue s (found_or_empty o u)
due_found s u None h = λ moment lt. refl
due_found s u (Some c) h = h

same_rows : (s : ℕ) (c v : Cell) → v.user ≡ c.user → NoneDue s c → NoneDue s v
same_rows s c v e h = λ moment lt. ap (λ (u : Option User). list_any (is_past moment) (rows_of u)) e ∙ h moment lt

-- a message that is begun is no row yet
pub due_begun : (u : Uaid) (o : Op) (t : Token) (m : MessageValue) (r : Reply) (s : ℕ) (es fs : List (ℕ × Cell)) →
    StepsTo (OnUser u (begin o t m)) u es fs r → NoneDueIn s es → NoneDueIn s fs
due_begun u o t m r s es fs h d =
    let c = cell_at es u in
    let same : h.cell.user ≡ c.user = ap (λ (q : Outcome). q.cell.user) (sym h.does) ∙ (begin_narrow o t m c).user in
    due_same u h.cell s es fs h.puts d (same_rows s c h.cell same (due_found s u (lookup (is_at (nat_cmp u.0)) es) (d u.0)))

-- ---- each cell

due_mapped : (f : Cell → Cell) (s : ℕ) (o : Option Cell) → ((c : Cell) → NoneDue s c → NoneDue s (f c)) → DueAt s o → DueAt s (option_map f o)
due_mapped f s None h d = tt
due_mapped f s (Some c) h d = h c d

pub due_each : (f : Cell → Cell) (s : ℕ) (es : List (ℕ × Cell)) → ((c : Cell) → NoneDue s c → NoneDue s (f c)) → NoneDueIn s es → NoneDueIn s (each f es)
due_each f s es h d = λ n.
    subst (DueAt s) (sym (lookup-map_values f (is_at (nat_cmp n)) es)) (due_mapped f s (lookup (is_at (nat_cmp n)) es) h (d n))

-- orphan marks make no row due
past_orphaned : (moment n : ℕ) (vs : List Saver) (rows : List Row) → list_any (is_past moment) (map (orphaned n vs) rows) ≡ list_any (is_past moment) rows
past_orphaned moment n vs [] = refl
past_orphaned moment n vs (r ∷ rows) = ap (λ b. is_past moment r || b) (past_orphaned moment n vs rows)

killed_user : (moment n : ℕ) (vs : List Saver) (u : Option User) → list_any (is_past moment) (rows_of (with_orphans n vs u)) ≡ list_any (is_past moment) (rows_of u)
killed_user moment n vs None = refl
killed_user moment n vs (Some u) = past_orphaned moment n vs u.rows

pub due_killed : (n s : ℕ) (c : Cell) → NoneDue s c → NoneDue s (killed n c)
due_killed n s c h = λ moment lt. killed_user moment n c.savers c.user ∙ h moment lt

-- ---- where no row is due nothing goes

user_stays : (moment : ℕ) (u : Option User) → list_any (is_past moment) (rows_of u) ≡ false → without_due moment u ≡ u
user_stays moment None h = refl
user_stays moment (Some u) h = ap (λ (rows : List Row). Some (record u { rows = rows })) (filter-none_past moment u.rows h)

cell_stays : (moment : ℕ) (c : Cell) → list_any (is_past moment) (rows_of c.user) ≡ false → ticked moment c ≡ c
cell_stays moment c h = ap (λ (u : Option User). record c { user = u }) (user_stays moment c.user h)

each_stays : (f : Cell → Cell) (es : List (ℕ × Cell)) → ((e : ℕ × Cell) → In e es → f e.1 ≡ e.1) → each f es ≡ es
each_stays f [] h = refl
each_stays f (e ∷ es) h =
    ap (λ (c : Cell). (e.0, c) ∷ each f es) (h e (inl refl)) ∙ ap (λ (ds : List (ℕ × Cell)). e ∷ ds) (each_stays f es (λ d i. h d (inr i)))

found_due : (s : ℕ) (c : Cell) (o : Option Cell) → o ≡ Some c → DueAt s o → NoneDue s c
found_due s c o e h = subst (DueAt s) e h

pub none_ticked : (w : World) (s moment : ℕ) → IsReached w → NoneDueIn s w.cells → moment < s → each (ticked moment) w.cells ≡ w.cells
none_ticked w s moment r d lt =
    each_stays (ticked moment) w.cells
    (λ e i. cell_stays moment e.1 (found_due s e.1 _ (reached_there w e r i) (d e.1.uaid.0) moment lt))

-- ---- the soonest of all

-- no row of these cells is due below it
abbrev pub NoneDueOf : ℕ → List Cell → Type 0
NoneDueOf t [] = Unit {0}
NoneDueOf t (c ∷ cs) = NoneDue t c × NoneDueOf t cs

pub due_more : (s t : ℕ) (cs : List Cell) (c : Cell) → NoneDueOf s cs → NoneDue t c → NoneDueOf (min s t) (cs ++ c ∷ [])
due_more s t [] c h k = (λ moment lt. k moment (omega arith), tt)
due_more s t (d ∷ cs) c h k = (λ moment lt. h.0 moment (omega arith), due_more s t cs c h.1 k)

entry_due : (t : ℕ) (b : Bool) (c : Cell) (o : Option Cell) → NoneDue t c → DueAt t o → DueAt t (cond b (Some c) o)
entry_due t true c o h k = h
entry_due t false c o h k = k

pub due_values : (t : ℕ) (es : List (ℕ × Cell)) → NoneDueOf t (values_of es) → NoneDueIn t es
due_values t [] h n = tt
due_values t (e ∷ es) h n = entry_due t (is_at (nat_cmp n) e.0) e.1 (lookup (is_at (nat_cmp n)) es) h.0 (due_values t es h.1 n)
