-- A cell whose rows and actors are as they should be, and what changes of a part leave of that.
use Rattle.std.proofs.Common.{◌≡◌, ℕ, ◌≤◌, Bool, true, false, not, inl, inr, List, [], ◌∷◌, refl, ap, sym, subst, arith, cond}
use Rattle.std.specs.Prelude.{Option, Some, None, find, ◌==◌}
use Rattle.push_model.specs.declared.ids.Uaid.{Uaid}
use Rattle.push_model.specs.declared.advance.Advance.{Advance}
use Rattle.push_model.specs.declared.advance.Advance.TheVariants.{Moved as Goes, End as Ends, Out, Absent}
use Rattle.push_model.specs.declared.parts.FlightRow.{FlightRow}
use Rattle.push_model.specs.declared.step.Stage.{Stage}
use Rattle.push_model.specs.SessionKey.{SessionKey}
use Rattle.push_model.specs.Keyed.{with_first, without_first}
use Rattle.push_model.specs.Sessions.{Session, checked, held, is_attached_at}
use Rattle.push_model.specs.Cells.{Cell, User, Saver, empty_cell, is_saver, unmarked_for}
use Rattle.push_model.specs.UserSteps.{dropped}
use Rattle.push_model.specs.SaverSteps.{saver_at, savers_moved, saver_moved}
use Rattle.push_model.specs.NodeSteps.{told, killed, with_orphans}
use Rattle.push_model.specs.ClockSteps.{ticked, without_due}
use Rattle.push_model.proofs.Care.{IsWithin}
use Rattle.push_model.proofs.Members.{In, in-filter, in-without_first}
use Rattle.push_laws.proofs.Counts.{amount, amount-filter, amount-with, amount-without}
use Rattle.push_laws.proofs.UserRows.{RowFacts, Fewer, fewer_facts, no_row_facts, due_facts, due_within, orphans_fewer, unmarked_for_fewer}
use Rattle.push_laws.proofs.Actors.{Actors, IsBounded, SaverBound, claim_key, session_key, saver_key, user_actors, session_actors, savers_actors, saver_actors}

pub record Tidy (moment : ℕ) (c : Cell) : Type 0 where
  pub rows : RowFacts moment c.user
  pub actors : Actors c

pub empty_tidy : (moment : ℕ) (u : Uaid) → Tidy moment (empty_cell u)
empty_tidy moment u =
    record {
      rows = no_row_facts moment;
      actors = record { keys = λ n a. omega arith; sessions = λ x i. elim i [ ]; savers = λ v i. elim i [ ] };
    }

-- ---- one part changes

pub user_tidy : (moment : ℕ) (c : Cell) (o : Option User) → Fewer c.user o → Tidy moment c → Tidy moment (record c { user = o })
user_tidy moment c o f h =
    record { rows = fewer_facts moment c.user o f h.rows; actors = user_actors c.user o c.claims c.sessions c.savers f.within h.actors }

pub flights_tidy : (moment : ℕ) (c : Cell) (fs : List FlightRow) → Tidy moment c → Tidy moment (record c { flights = fs })
flights_tidy moment c fs h = record { rows = h.rows; actors = h.actors }

pub session_tidy : (moment : ℕ) (c : Cell) (t : Session → Bool) (g : Session → Session) (x : Session) → find t c.sessions ≡ Some x →
    ((y : Session) → (g y).node ≡ y.node) → ((y : Session) → (g y).at ≡ y.at) → (IsBounded (held x) → IsBounded (held (g x))) →
    Tidy moment c → Tidy moment (record c { sessions = with_first t g c.sessions })
session_tidy moment c t g x e n m b h =
    record { rows = h.rows; actors = session_actors c.user c.claims c.sessions c.savers t g x e n m b h.actors }

pub saver_tidy : (moment : ℕ) (c : Cell) (t : Saver → Bool) (g : Saver → Saver) (v : Saver) → find t c.savers ≡ Some v →
    ((y : Saver) → (g y).node ≡ y.node) → ((y : Saver) → (g y).at ≡ y.at) → (IsBounded v.held → IsBounded (g v).held) →
    Tidy moment c → Tidy moment (record c { savers = with_first t g c.savers })
saver_tidy moment c t g v e n m b h =
    record { rows = h.rows; actors = saver_actors c.user c.claims c.sessions c.savers t g v e n m b h.actors }

pub savers_tidy : (moment : ℕ) (c : Cell) (ws : List Saver) → ((n a : ℕ) → amount (saver_key n a) ws ≤ amount (saver_key n a) c.savers) →
    ((v : Saver) → In v ws → SaverBound c.user v) → Tidy moment c → Tidy moment (record c { savers = ws })
savers_tidy moment c ws k b h =
    record { rows = h.rows; actors = savers_actors c.user c.claims c.sessions c.savers ws k b h.actors }

-- ---- a saver moves on, or ends

staged_cons : (stage : Stage) (b : Bool) (v y : Saver) (vs ws : List Saver) → (In y ws → (z : Saver) × In z vs × (z.at ≡ y.at) × (z.held ≡ y.held)) →
    In y (cond b (saver_at stage v ∷ vs) (v ∷ ws)) → (z : Saver) × In z (v ∷ vs) × (z.at ≡ y.at) × (z.held ≡ y.held)
staged_cons stage true v y vs ws f (inl q) = (v, inl refl, sym (ap (λ z. z.at) q), sym (ap (λ z. z.held) q))
staged_cons stage true v y vs ws f (inr i) = (y, inr i, refl, refl)
staged_cons stage false v y vs ws f (inl q) = (v, inl refl, sym (ap (λ z. z.at) q), sym (ap (λ z. z.held) q))
staged_cons stage false v y vs ws f (inr i) = let r = f i in (r.0, inr r.1, r.2, r.3)

staged_back : (t : Saver → Bool) (stage : Stage) (y : Saver) (vs : List Saver) → In y (with_first t (saver_at stage) vs) →
    (z : Saver) × In z vs × (z.at ≡ y.at) × (z.held ≡ y.held)
staged_back t stage y [] i = elim i [ ]
staged_back t stage y (v ∷ vs) i = staged_cons stage (t v) v y vs (with_first t (saver_at stage) vs) (staged_back t stage y vs) i

moved_tidy : (moment : ℕ) (a : Advance) (s : SessionKey) (c : Cell) → Tidy moment c → Tidy moment (record c { savers = savers_moved a s c.savers })
moved_tidy moment (Goes stage) s c h =
    savers_tidy moment c (with_first (is_saver s) (saver_at stage) c.savers)
    (λ n a. let k = amount-with (saver_key n a) (is_saver s) (saver_at stage) c.savers (λ y. refl) in omega (arith, k))
    (λ y i.
    let z = staged_back (is_saver s) stage y c.savers i in
    let b = h.actors.savers z.0 z.1 in
    record { within = subst (λ a. IsWithin a c.user) z.2 b.within; bounded = subst IsBounded z.3 b.bounded })
    h
moved_tidy moment (Ends code) s c h =
    savers_tidy moment c (without_first (is_saver s) c.savers) (λ n a. amount-without (saver_key n a) (is_saver s) c.savers)
    (λ v i. h.actors.savers v (in-without_first (is_saver s) v c.savers i)) h
moved_tidy moment (Out stage) s c h = record { rows = h.rows; actors = h.actors }
moved_tidy moment Absent s c h = record { rows = h.rows; actors = h.actors }

pub saver_moved_tidy : (moment : ℕ) (a : Advance) (s : SessionKey) (c : Cell) → Tidy moment c → Tidy moment (saver_moved a s c)
saver_moved_tidy moment a s c h = moved_tidy moment a s c h

-- ---- a session is told

pub told_tidy : (moment n : ℕ) (x : Option Session) (c : Cell) → find (is_attached_at n) c.sessions ≡ x → Tidy moment c → Tidy moment (told n x c)
told_tidy moment n None c e h = h
told_tidy moment n (Some x) c e h =
    user_tidy moment (record c { sessions = with_first (is_attached_at n) checked c.sessions }) (unmarked_for n x.at c.user) (unmarked_for_fewer n x.at c.user)
    (session_tidy moment c (is_attached_at n) checked x e (λ y. refl) (λ y. refl) (λ b. b) h)

-- ---- every cell

pub ticked_tidy : (a moment : ℕ) (c : Cell) → Tidy a c → Tidy moment (ticked moment c)
ticked_tidy a moment c h =
    record {
      rows = due_facts a moment c.user h.rows;
      actors = user_actors c.user (without_due moment c.user) c.claims c.sessions c.savers (λ b w. due_within moment b c.user w) h.actors;
    }

pub killed_tidy : (moment n : ℕ) (c : Cell) → Tidy moment c → Tidy moment (killed n c)
killed_tidy moment n c h =
    let p = λ (x : Session). not (x.node == n) in
    let q = λ (v : Saver). not (v.node == n) in
    let f = orphans_fewer n c.savers c.user in
    record {
      rows = fewer_facts moment c.user (with_orphans n c.savers c.user) f h.rows;
      actors =
          record {
            keys = λ k a.
                let d = amount-filter (claim_key k a) (λ x. not (x.node == n)) c.claims in
                let e = amount-filter (session_key k a) p c.sessions in
                let g = amount-filter (saver_key k a) q c.savers in
                let l = h.actors.keys k a in
                omega (arith, d, e, g, l);
            sessions = λ x i. h.actors.sessions x (in-filter p x c.sessions i);
            savers = λ v i.
                let b = h.actors.savers v (in-filter q v c.savers i) in
                record { within = f.within v.at b.within; bounded = b.bounded };
          };
    }

pub dropped_tidy : (moment : ℕ) (c : Cell) → Tidy moment (dropped c)
dropped_tidy moment c = let h = empty_tidy moment c.uaid in record { rows = h.rows; actors = h.actors }
