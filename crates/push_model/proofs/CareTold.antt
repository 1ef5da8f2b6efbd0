-- Telling a session loses no nudge: Nudge of a flight or of a saver, and Notif.
use Rattle.std.proofs.Common.{◌≡◌, ℕ, Bool, true, false, not, inl, inr, List, refl, ◌∙◌, ap, sym, subst, arith}
use Rattle.std.specs.Prelude.{find, Option, Some, None, is_some, ◌==◌, if◌then◌else◌}
use Rattle.std.proofs.lemmas.Bool.Decides.{nat_tests}
use Rattle.push_model.specs.declared.ids.Op.{Op}
use Rattle.push_model.specs.declared.ids.MsgId.{MsgId}
use Rattle.push_model.specs.declared.parts.FlightRow.{FlightRow}
use Rattle.push_model.specs.declared.step.Stage.{Stage}
use Rattle.push_model.specs.declared.step.Stage.TheVariants.{Nudge as AtNudge, ToldNudge as AtToldNudge}
use Rattle.push_model.specs.SessionKey.{SessionKey}
use Rattle.push_model.specs.Keyed.{with_first}
use Rattle.push_model.specs.Rows.{is_row}
use Rattle.push_model.specs.Sessions.{Session, is_attached_at, checked}
use Rattle.push_model.specs.Cells.{Cell, User, Saver, rows_of, is_place, is_routed_to, routed_place, unmarked, unmarked_row, unmarked_for}
use Rattle.push_model.specs.FlightSteps.{flight, nudge, nudge_of, nudge_at, nudge_to}
use Rattle.push_model.specs.SaverSteps.{saver, saver_nudge, saver_nudge_of, saver_nudge_at, saver_nudge_to}
use Rattle.push_model.specs.NodeSteps.{told}
use Rattle.push_model.specs.Covering.{is_routed, names_session, stage_covers}
use Rattle.push_model.proofs.Members.{In}
use Rattle.push_model.proofs.Marks.{and_left, and_right, both}
use Rattle.push_model.proofs.Single.{Single, single-map, single_first, none_found}
use Rattle.push_model.proofs.Care.{BySent, ByCheck, ByFetch, Stays, IsWithin, CareFacts, user_care, session_care}
use Rattle.push_model.proofs.CareActors.{Passes, saver_stage_covers, stage_care, saver_stage_care}

-- ---- orphan marks

pub unmarked_routed : (o : Option User) (x : Session) → is_routed (unmarked o) x ≡ is_routed o x
unmarked_routed None x = refl
unmarked_routed (Some u) x = refl

pub unmarked_single : (i : MsgId) (o : Option User) → Single (is_row i) (rows_of o) → Single (is_row i) (rows_of (unmarked o))
unmarked_single i None d = d
unmarked_single i (Some u) d = single-map (is_row i) unmarked_row u.rows (λ r e. e) d

pub unmarked_within : (a : ℕ) (o : Option User) → IsWithin a o → IsWithin a (unmarked o)
unmarked_within a None h = h
unmarked_within a (Some u) h = h

-- of two places of one route row
same_node : (n m a b : ℕ) (p : Option (ℕ × ℕ)) → is_place n a p ≡ true → is_place m b p ≡ true → (m == n) ≡ true
same_node n m a b None h g = cc
same_node n m a b (Some p) h g = grind (arith, nat_tests)

-- a routed session is attached at the node that the route row names
pub routed_attached : (n a : ℕ) (o : Option User) (x : Session) → is_routed_to n a o ≡ true → is_routed o x ≡ true → is_attached_at n x ≡ true
routed_attached n a o x h d =
    both (not x.displaced) (x.node == n) (and_left (not x.displaced) (is_routed_to x.node x.at o) d)
    (same_node n x.node a x.at (routed_place o) h (and_right (not x.displaced) (is_routed_to x.node x.at o) d))

-- each session that is attached there is to look at the rows
abbrev pub AllChecked : ℕ → List Session → Type 0
AllChecked n xs = (x : Session) → In x xs → is_attached_at n x ≡ true → x.check ≡ true

unmark_by : (n a : ℕ) (c : Cell) (b : Bool) → is_routed_to n a c.user ≡ b → CareFacts c → AllChecked n c.sessions →
    CareFacts (record c { user = if b then unmarked c.user else c.user })
unmark_by n a c false e h g = h
unmark_by n a c true e h g =
    user_care c (unmarked c.user) h (λ i. unmarked_single i c.user (h.rows i)) (λ k. unmarked_within k c.user)
    (λ x i d r j. ByCheck (g x i (routed_attached n a c.user x e (sym (unmarked_routed c.user x) ∙ d))))

-- the marks may go where that session is to look
pub unmark_care : (n a : ℕ) (c : Cell) → CareFacts c → AllChecked n c.sessions → CareFacts (record c { user = unmarked_for n a c.user })
unmark_care n a c h g = unmark_by n a c (is_routed_to n a c.user) refl h g

-- ---- the session attached there is told

checked_stays : Stays checked
checked_stays = record { node = λ x. refl; at = λ x. refl; displaced = λ x. refl }

-- the check mark is set
pub check_care : (c : Cell) (t : Session → Bool) (x : Session) → CareFacts c → find t c.sessions ≡ Some x →
    CareFacts (record c { sessions = with_first t checked c.sessions })
check_care c t x h e =
    session_care c t checked x h e checked_stays
    (λ r i. record { node = refl; at = refl; sent = λ k. BySent k; check = λ k. ByCheck refl; fetch = λ k. ByFetch k })

-- then each that is attached there is checked
pub all_checked : (n : ℕ) (c : Cell) (y : Session) → CareFacts c → find (is_attached_at n) c.sessions ≡ Some y →
    AllChecked n (with_first (is_attached_at n) checked c.sessions)
all_checked n c y h e x i a =
    elim (single_first (is_attached_at n) checked y x c.sessions (h.alone n) e i) [ inl q ↦ ap (λ z. z.check) q | inr q ↦ let b = q.1 in cc ]

pub told_care : (n : ℕ) (y : Option Session) (c : Cell) → CareFacts c → find (is_attached_at n) c.sessions ≡ y → CareFacts (told n y c)
told_care n None c h e = h
told_care n (Some y) c h e =
    unmark_care n y.at (record c { sessions = with_first (is_attached_at n) checked c.sessions }) (check_care c (is_attached_at n) y h e) (all_checked n c y h e)

pub told_checked : (n : ℕ) (y : Option Session) (c : Cell) → CareFacts c → find (is_attached_at n) c.sessions ≡ y → AllChecked n (told n y c).sessions
told_checked n None c h e x i a = let b = none_found (is_attached_at n) c.sessions e x i in cc
told_checked n (Some y) c h e x i a = all_checked n c y h e x i a

-- ---- Nudge of a flight

named_attached : (n a : ℕ) (o : Option User) (x : Session) → is_routed o x ≡ true → names_session n a x ≡ true → is_attached_at n x ≡ true
named_attached n a o x d k =
    let b = and_left (not x.displaced) (is_routed_to x.node x.at o) d in
    let e = and_left (n == x.node) (a == x.at) k in
    both (not x.displaced) (x.node == n) b (grind (arith, nat_tests, e))

-- an actor that told the session that it names covers no other
nudge_passes : (c : Cell) (n a : ℕ) (b : Bool) → AllChecked n c.sessions → Passes stage_covers c (AtNudge n a) (AtToldNudge b n a)
nudge_passes c n a b g x i d k = inr (g x i (named_attached n a c.user x d k))

told_flight : (n : ℕ) (y : Option Session) (o : Op) (c : Cell) → flight o (told n y c) ≡ flight o c
told_flight n None o c = refl
told_flight n (Some y) o c = refl

nudge_to_care : (n a : ℕ) (o : Op) (f : FlightRow) (c : Cell) (y : Option Session) → CareFacts c → flight o c ≡ Some f → f.stage ≡ AtNudge n a →
    find (is_attached_at n) c.sessions ≡ y → CareFacts (nudge_to y n a o c).cell
nudge_to_care n a o f c y h e s k =
    let v = told n y c in
    stage_care v o (AtToldNudge (is_some y) n a) f (told_care n y c h k) (told_flight n y o c ∙ e)
    (subst (λ z. Passes stage_covers v z (AtToldNudge (is_some y) n a)) (sym s) (nudge_passes v n a (is_some y) (told_checked n y c h k)))

nudge_at_care : (o : Op) (f : FlightRow) (c : Cell) (stage : Stage) → CareFacts c → flight o c ≡ Some f → f.stage ≡ stage → CareFacts (nudge_at stage o c).cell
nudge_at_care o f c (AtNudge n a) h e s = nudge_to_care n a o f c (find (is_attached_at n) c.sessions) h e s refl
nudge_at_care o f c _ h e s = h

nudge_of_care : (o : Op) (c : Cell) (f : Option FlightRow) → CareFacts c → flight o c ≡ f → CareFacts (nudge_of f o c).cell
nudge_of_care o c None h e = h
nudge_of_care o c (Some f) h e = nudge_at_care o f c f.stage h e refl

pub nudge_care : (o : Op) (c : Cell) → CareFacts c → CareFacts (nudge o c).cell
nudge_care o c h = nudge_of_care o c (flight o c) h refl

-- ---- Nudge of a saver

saver_nudge_passes : (c : Cell) (n a : ℕ) (b : Bool) → AllChecked n c.sessions → Passes saver_stage_covers c (AtNudge n a) (AtToldNudge b n a)
saver_nudge_passes c n a b g x i d k = inr (g x i (named_attached n a c.user x d k))

told_saver : (n : ℕ) (y : Option Session) (s : SessionKey) (c : Cell) → saver s (told n y c) ≡ saver s c
told_saver n None s c = refl
told_saver n (Some y) s c = refl

saver_nudge_to_care : (n a : ℕ) (s : SessionKey) (v : Saver) (c : Cell) (y : Option Session) → CareFacts c → saver s c ≡ Some v → v.stage ≡ AtNudge n a →
    find (is_attached_at n) c.sessions ≡ y → CareFacts (saver_nudge_to y n a s c).cell
saver_nudge_to_care n a s v c y h e q k =
    let w = told n y c in
    saver_stage_care w s (AtToldNudge (is_some y) n a) v (told_care n y c h k) (told_saver n y s c ∙ e)
    (subst (λ z. Passes saver_stage_covers w z (AtToldNudge (is_some y) n a)) (sym q) (saver_nudge_passes w n a (is_some y) (told_checked n y c h k)))

saver_nudge_at_care : (s : SessionKey) (v : Saver) (c : Cell) (stage : Stage) → CareFacts c → saver s c ≡ Some v → v.stage ≡ stage →
    CareFacts (saver_nudge_at stage s c).cell
saver_nudge_at_care s v c (AtNudge n a) h e q = saver_nudge_to_care n a s v c (find (is_attached_at n) c.sessions) h e q refl
saver_nudge_at_care s v c _ h e q = h

saver_nudge_of_care : (s : SessionKey) (c : Cell) (v : Option Saver) → CareFacts c → saver s c ≡ v → CareFacts (saver_nudge_of v s c).cell
saver_nudge_of_care s c None h e = h
saver_nudge_of_care s c (Some v) h e = saver_nudge_at_care s v c v.stage h e refl

pub saver_nudge_care : (s : SessionKey) (c : Cell) → CareFacts c → CareFacts (saver_nudge s c).cell
saver_nudge_care s c h = saver_nudge_of_care s c (saver s c) h refl
