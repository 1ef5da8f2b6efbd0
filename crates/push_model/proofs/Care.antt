-- What holds of a cell between two steps, so that no nudge is lost; and changes of one part of a cell.
use Rattle.std.proofs.Common.{◌≡◌, ℕ, ◌≤◌, Bool, true, ◌||◌, ◌&&◌, not, ◌⊎◌, inl, inr, List, refl, ◌∙◌, ap, sym, subst}
use Rattle.std.specs.Prelude.{find, Option, Some, None, ◌==◌}
use Rattle.std.specs.List.{list_any}
use Rattle.push_model.specs.declared.ids.Uaid.{Uaid}
use Rattle.push_model.specs.declared.ids.MsgId.{MsgId}
use Rattle.push_model.specs.declared.parts.Claim.{Claim}
use Rattle.push_model.specs.declared.parts.FlightRow.{FlightRow}
use Rattle.push_model.specs.declared.parts.Row.{Row}
use Rattle.push_model.specs.declared.step.Stage.{Stage}
use Rattle.push_model.specs.declared.step.Stage.TheVariants.{Reread, Nudge, Clear}
use Rattle.push_model.specs.Names.{is_same_id}
use Rattle.push_model.specs.Keyed.{with_first}
use Rattle.push_model.specs.Rows.{has_sent, is_row}
use Rattle.push_model.specs.Sessions.{Session, is_attached_at}
use Rattle.push_model.specs.Cells.{Cell, User, Saver, rows_of, empty_cell, is_routed_to}
use Rattle.push_model.specs.Covering.{is_routed, fetch_covers, stage_covers, is_saving, flight_covers, saver_covers}
use Rattle.push_model.proofs.Members.{In, in-with_first, find_in}
use Rattle.push_model.proofs.Single.{Single, single-with_first}

-- ---- the facts

-- The row was sent to the session, or somebody is about to tell of it.
pub data Minded (fs : List FlightRow) (vs : List Saver) (x : Session) (r : Row) : Type 0 where
  BySent : (h : has_sent r.message.id x.sent ≡ true) → Minded fs vs x r
  ByCheck : (h : x.check ≡ true) → Minded fs vs x r
  ByFetch : (h : fetch_covers x.fetch r ≡ true) → Minded fs vs x r
  ByFlight : (f : FlightRow) → (i : In f fs) → (h : flight_covers x r f ≡ true) → Minded fs vs x r
  BySaver : (v : Saver) → (i : In v vs) → (h : saver_covers x r v ≡ true) → Minded fs vs x r
  ByMark : (h : r.orphan ≡ true) → Minded fs vs x r

-- the user is there, and its route row isn't older
abbrev pub IsWithin : ℕ → Option User → Type 0
IsWithin a None = ⊥
IsWithin a (Some u) = a ≤ u.route.at

-- No two rows have one id. At most one session is attached at a node. No session and no claim is newer than the route
-- row. Each row is minded for each routed session.
pub record CareFacts (c : Cell) : Type 0 where
  pub rows : (i : MsgId) → Single (is_row i) (rows_of c.user)
  pub alone : (n : ℕ) → Single (is_attached_at n) c.sessions
  pub sessions : (x : Session) → In x c.sessions → IsWithin x.at c.user
  pub claims : (k : Claim) → In k c.claims → IsWithin k.at c.user
  pub minded : (x : Session) → In x c.sessions → is_routed c.user x ≡ true → (r : Row) → In r (rows_of c.user) → Minded c.flights c.savers x r

-- they hold of the empty cell
pub empty_care : (u : Uaid) → CareFacts (empty_cell u)
empty_care u =
    record { rows = λ i. tt; alone = λ n. tt; sessions = λ x i. elim i [ ]; claims = λ k i. elim i [ ]; minded = λ x i e r j. elim i [ ] }

-- ---- one part changes

-- the claims
pub claims_care : (c : Cell) (ks : List Claim) → CareFacts c → ((k : Claim) → In k ks → IsWithin k.at c.user) → CareFacts (record c { claims = ks })
claims_care c ks h g = record { rows = h.rows; alone = h.alone; sessions = h.sessions; claims = g; minded = h.minded }

-- the user: its rows are minded
pub user_care : (c : Cell) (o : Option User) → CareFacts c → ((i : MsgId) → Single (is_row i) (rows_of o)) →
    ((a : ℕ) → IsWithin a c.user → IsWithin a o) →
    ((x : Session) → In x c.sessions → is_routed o x ≡ true → (r : Row) → In r (rows_of o) → Minded c.flights c.savers x r) →
    CareFacts (record c { user = o })
user_care c o h d w g =
    record { rows = d; alone = h.alone; sessions = λ x i. w x.at (h.sessions x i); claims = λ k i. w k.at (h.claims k i); minded = g }

-- the sessions: each has its facts
pub sessions_care : (c : Cell) (xs : List Session) → CareFacts c → ((n : ℕ) → Single (is_attached_at n) xs) →
    ((x : Session) → In x xs → IsWithin x.at c.user) →
    ((x : Session) → In x xs → is_routed c.user x ≡ true → (r : Row) → In r (rows_of c.user) → Minded c.flights c.savers x r) →
    CareFacts (record c { sessions = xs })
sessions_care c xs h d w g = record { rows = h.rows; alone = d; sessions = w; claims = h.claims; minded = g }

-- the flights: each row that one covered is minded
by_flights : (fs gs : List FlightRow) (vs : List Saver) (x : Session) (r : Row) →
    ((f : FlightRow) → In f fs → flight_covers x r f ≡ true → Minded gs vs x r) → Minded fs vs x r → Minded gs vs x r
by_flights fs gs vs x r g (BySent h) = BySent h
by_flights fs gs vs x r g (ByCheck h) = ByCheck h
by_flights fs gs vs x r g (ByFetch h) = ByFetch h
by_flights fs gs vs x r g (ByFlight f i h) = g f i h
by_flights fs gs vs x r g (BySaver v i h) = BySaver v i h
by_flights fs gs vs x r g (ByMark h) = ByMark h

pub flights_care : (c : Cell) (fs : List FlightRow) → CareFacts c →
    ((x : Session) → In x c.sessions → is_routed c.user x ≡ true → (r : Row) → In r (rows_of c.user) → (f : FlightRow) → In f c.flights → flight_covers x r f ≡ true → Minded fs c.savers x r) →
    CareFacts (record c { flights = fs })
flights_care c fs h g =
    record {
      rows = h.rows;
      alone = h.alone;
      sessions = h.sessions;
      claims = h.claims;
      minded = λ x i e r j. by_flights c.flights fs c.savers x r (g x i e r j) (h.minded x i e r j);
    }

-- the savers: each row that one covered is minded
by_savers : (fs : List FlightRow) (vs ws : List Saver) (x : Session) (r : Row) →
    ((v : Saver) → In v vs → saver_covers x r v ≡ true → Minded fs ws x r) → Minded fs vs x r → Minded fs ws x r
by_savers fs vs ws x r g (BySent h) = BySent h
by_savers fs vs ws x r g (ByCheck h) = ByCheck h
by_savers fs vs ws x r g (ByFetch h) = ByFetch h
by_savers fs vs ws x r g (ByFlight f i h) = ByFlight f i h
by_savers fs vs ws x r g (BySaver v i h) = g v i h
by_savers fs vs ws x r g (ByMark h) = ByMark h

pub savers_care : (c : Cell) (vs : List Saver) → CareFacts c →
    ((x : Session) → In x c.sessions → is_routed c.user x ≡ true → (r : Row) → In r (rows_of c.user) → (v : Saver) → In v c.savers → saver_covers x r v ≡ true → Minded c.flights vs x r) →
    CareFacts (record c { savers = vs })
savers_care c vs h g =
    record {
      rows = h.rows;
      alone = h.alone;
      sessions = h.sessions;
      claims = h.claims;
      minded = λ x i e r j. by_savers c.flights c.savers vs x r (g x i e r j) (h.minded x i e r j);
    }

-- ---- one session changes

stage_same : (stage : Stage) (x y : Session) → y.node ≡ x.node → y.at ≡ x.at → stage_covers stage x ≡ stage_covers stage y
stage_same Reread x y e d = refl
stage_same (Nudge n a) x y e d = sym (ap (λ k. (n == k) && (a == y.at)) e ∙ ap (λ k. (n == x.node) && (a == k)) d)
stage_same (Clear n a) x y e d = sym (ap (λ k. (n == k) && (a == y.at)) e ∙ ap (λ k. (n == x.node) && (a == k)) d)
stage_same _ x y e d = refl

-- y is where x was, and what minds the row for x minds it for y
pub record Follows (fs : List FlightRow) (vs : List Saver) (x y : Session) (r : Row) : Type 0 where
  pub node : y.node ≡ x.node
  pub at : y.at ≡ x.at
  pub sent : has_sent r.message.id x.sent ≡ true → Minded fs vs y r
  pub check : x.check ≡ true → Minded fs vs y r
  pub fetch : fetch_covers x.fetch r ≡ true → Minded fs vs y r

-- then the row is minded for y
pub follow : (fs : List FlightRow) (vs : List Saver) (x y : Session) (r : Row) → Follows fs vs x y r → Minded fs vs x r → Minded fs vs y r
follow fs vs x y r g (BySent h) = g.sent h
follow fs vs x y r g (ByCheck h) = g.check h
follow fs vs x y r g (ByFetch h) = g.fetch h
follow fs vs x y r g (ByFlight f i h) =
    ByFlight f i (ap (λ b. is_same_id f.message.id r.message.id && b) (sym (stage_same f.stage x y g.node g.at)) ∙ h)
follow fs vs x y r g (BySaver v i h) =
    BySaver v i (ap (λ b. list_any (λ i. is_same_id i r.message.id) v.saved && (is_saving v.stage || b)) (sym (stage_same v.stage x y g.node g.at)) ∙ h)
follow fs vs x y r g (ByMark h) = ByMark h

-- a change that leaves each session where it is
pub record Stays (g : Session → Session) : Type 0 where
  pub node : (x : Session) → (g x).node ≡ x.node
  pub at : (x : Session) → (g x).at ≡ x.at
  pub displaced : (x : Session) → (g x).displaced ≡ x.displaced

stays_attached : (g : Session → Session) (n : ℕ) (x : Session) → Stays g → is_attached_at n (g x) ≡ is_attached_at n x
stays_attached g n x s = ap (λ b. not b && ((g x).node == n)) (s.displaced x) ∙ ap (λ k. not x.displaced && (k == n)) (s.node x)

pub stays_routed : (g : Session → Session) (o : Option User) (x : Session) → Stays g → is_routed o (g x) ≡ is_routed o x
stays_routed g o x s =
    ap (λ b. not b && is_routed_to (g x).node (g x).at o) (s.displaced x) ∙ ap (λ k. not x.displaced && is_routed_to k (g x).at o) (s.node x) ∙
    ap (λ k. not x.displaced && is_routed_to x.node k o) (s.at x)

-- the first session that passes becomes g of it
pub session_care : (c : Cell) (t : Session → Bool) (g : Session → Session) (x : Session) → CareFacts c → find t c.sessions ≡ Some x → Stays g →
    ((r : Row) → In r (rows_of c.user) → Follows c.flights c.savers x (g x) r) → CareFacts (record c { sessions = with_first t g c.sessions })
session_care c t g x h e s f =
    let i = find_in t x c.sessions e in
    let old : (y : Session) → In y (with_first t g c.sessions) → In y c.sessions ⊎ (y ≡ g x) = λ y j. in-with_first t g y x c.sessions e j in
    sessions_care c (with_first t g c.sessions) h
    (λ n. single-with_first (is_attached_at n) t g c.sessions (λ y q. sym (stays_attached g n y s) ∙ q) (h.alone n))
    (λ y j. elim (old y j) [ inl k ↦ h.sessions y k | inr q ↦ subst (λ a. IsWithin a c.user) (sym (ap (λ z. z.at) q ∙ s.at x)) (h.sessions x i) ])
    (λ y j. elim (old y j) [
      | inl k ↦ λ d r l. h.minded y k d r l
      | inr q ↦ λ d r l.
          let routed : is_routed c.user x ≡ true = sym (stays_routed g c.user x s) ∙ ap (is_routed c.user) (sym q) ∙ d in
          subst (λ z. Minded c.flights c.savers z r) (sym q) (follow c.flights c.savers x (g x) r (f r l) (h.minded x i routed r l))
    ])

-- ---- the user has fewer rows

-- or as many: the route row stays, and each row was there
pub fewer_care : (c : Cell) (o : Option User) → CareFacts c → ((i : MsgId) → Single (is_row i) (rows_of o)) →
    ((a : ℕ) → IsWithin a c.user → IsWithin a o) → ((x : Session) → is_routed o x ≡ is_routed c.user x) →
    ((r : Row) → In r (rows_of o) → In r (rows_of c.user)) → CareFacts (record c { user = o })
fewer_care c o h d w q b = user_care c o h d w (λ x i e r j. h.minded x i (sym (q x) ∙ e) r (b r j))
