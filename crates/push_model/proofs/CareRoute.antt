-- Steps on the route row and on who is attached lose no nudge: Create, Claim, Attach, Register, Renew, Clear, Release, and
-- the drop of a user.
use Rattle.std.proofs.Common.{◌≡◌, ℕ, ◌≤◌, Bool, true, false, not, ◌⊎◌, inl, inr, List, [], ◌∷◌, ◌++◌, refl, ◌∙◌, ap, sym, subst, arith}
use Rattle.std.specs.Prelude.{find, Option, Some, None, is_some, is_none, nat_lt, ◌==◌, ◌&&◌, if◌then◌else◌}
use Rattle.std.specs.List.{list_any}
use Rattle.std.proofs.lemmas.Bool.Decides.{nat_tests}
use Rattle.push_model.specs.declared.ids.ChannelId.{ChannelId}
use Rattle.push_model.specs.declared.ids.MsgId.{MsgId}
use Rattle.push_model.specs.declared.ids.Op.{Op}
use Rattle.push_model.specs.declared.ids.Token.{Token}
use Rattle.push_model.specs.declared.parts.Channel.{Channel}
use Rattle.push_model.specs.declared.parts.Claim.{Claim}
use Rattle.push_model.specs.declared.parts.FlightRow.{FlightRow}
use Rattle.push_model.specs.declared.step.Stage.{Stage}
use Rattle.push_model.specs.declared.step.Stage.TheVariants.{Clear as AtClear, Saving as AtSaving}
use Rattle.push_model.specs.declared.reply.Reply.TheVariants.{Made, Taken, NotClaimed, Attached, Outrun, NoSession, Stale, Claimed, Renewed, Kept, Dropped}
use Rattle.push_model.specs.SessionKey.{SessionKey}
use Rattle.push_model.specs.Keyed.{with_first, without_first}
use Rattle.push_model.specs.Rows.{is_row}
use Rattle.push_model.specs.Sessions.{Session, new_session, is_session, is_attached, is_attached_at, displaced, checked}
use Rattle.push_model.specs.Cells.{Cell, User, Saver, rows_of, channels_of, is_claim, is_channel, is_routed_to, cleared_for, unrouted}
use Rattle.push_model.specs.Outcomes.{outcome}
use Rattle.push_model.specs.UserSteps.{new_user, new_claim, create, claim, claim_of, claimed_user, dropped, drop_user, expire, is_idle_user}
use Rattle.push_model.specs.SessionSteps.{attach, attach_beside, joined, attached, with_session, register, register_beside, with_channel, renew, renewed, is_renewable}
use Rattle.push_model.specs.FlightSteps.{flight, clear, clear_of, clear_at}
use Rattle.push_model.specs.SaverSteps.{saver, saver_clear, saver_clear_of, saver_clear_at, release, release_of, release_at}
use Rattle.push_model.specs.Covering.{is_routed, names_session, stage_covers}
use Rattle.push_model.proofs.Members.{In, true_not_false, find_in, in-snoc, in-without_first, among}
use Rattle.push_model.proofs.Marks.{and_left, and_right, both}
use Rattle.push_model.proofs.Single.{Single, NonePass, single-snoc, single-with_first, single-narrow, single_first, none_found}
use Rattle.push_model.proofs.Care.{ByCheck, IsWithin, CareFacts, claims_care, user_care, sessions_care}
use Rattle.push_model.proofs.CareActors.{Stops, saver_stage_covers, end_care, saver_end_care}
use Rattle.push_model.proofs.CareTold.{unmark_care, unmarked_single, check_care}

-- ---- Create

no_user : (a : ℕ) (o : Option User) → is_some o ≡ false → IsWithin a o → ⊥
no_user a None e w = w
no_user a (Some u) e w = true_not_false e

created_care : (moment : ℕ) (s : SessionKey) (c : Cell) → CareFacts c → is_some c.user ≡ false →
    CareFacts (record c { user = Some (new_user moment s); claims = c.claims ++ new_claim s ∷ [] })
created_care moment s c h e =
    record {
      rows = λ i. tt;
      alone = h.alone;
      sessions = λ x i. absurd (no_user x.at c.user e (h.sessions x i));
      claims = λ k i. elim (in-snoc k (new_claim s) c.claims i) [ inl j ↦ absurd (no_user k.at c.user e (h.claims k j)) | inr q ↦ subst (λ z. z.at ≤ s.at) (sym q) (omega arith) ];
      minded = λ x i d r j. elim j [ ];
    }

create_by : (moment : ℕ) (s : SessionKey) (c : Cell) (b : Bool) → is_some c.user ≡ b → CareFacts c →
    CareFacts (if b then outcome c Taken else outcome (record c { user = Some (new_user moment s); claims = c.claims ++ new_claim s ∷ [] }) Made).cell
create_by moment s c true e h = h
create_by moment s c false e h = created_care moment s c h e

pub create_care : (moment : ℕ) (s : SessionKey) (c : Cell) → CareFacts c → CareFacts (create moment s c).cell
create_care moment s c h = create_by moment s c (is_some c.user) refl h

-- ---- Claim: no session is as new

newer : (a b n : ℕ) → nat_lt a b ≡ true → n ≤ a → (b == n) ≡ true → ⊥
newer a b n l w e = absurd (grind (arith, nat_tests))

later_still : (a b n : ℕ) → nat_lt a b ≡ true → n ≤ a → n ≤ b
later_still a b n l w = grind (arith, nat_tests)

claimed_care : (moment : ℕ) (s : SessionKey) (u : User) (c : Cell) → CareFacts c → c.user ≡ Some u → nat_lt u.route.at s.at ≡ true →
    CareFacts (record c { user = Some (claimed_user moment s u); claims = c.claims ++ new_claim s ∷ [] })
claimed_care moment s u c h e l =
    let o : Option User = Some (claimed_user moment s u) in
    let one = user_care c o h (λ i. subst (λ z. Single (is_row i) (rows_of z)) e (h.rows i)) (λ a w. later_still u.route.at s.at a l (subst (IsWithin a) e w))
    (λ x i d r j. absurd (newer u.route.at s.at x.at l (subst (IsWithin x.at) e (h.sessions x i)) (and_right (s.node == x.node) (s.at == x.at) (and_right (not x.displaced) _ d)))) in
    let v = record c { user = o } in
    claims_care v (c.claims ++ new_claim s ∷ []) one
    (λ k i. elim (in-snoc k (new_claim s) c.claims i) [ inl j ↦ one.claims k j | inr q ↦ subst (λ z. z.at ≤ s.at) (sym q) (omega arith) ])

claim_by : (moment : ℕ) (s : SessionKey) (u : User) (c : Cell) (b : Bool) → CareFacts c → c.user ≡ Some u → nat_lt u.route.at s.at ≡ b →
    CareFacts (if b then outcome (record c { user = Some (claimed_user moment s u); claims = c.claims ++ new_claim s ∷ [] }) (Claimed u.route.node) else outcome c (Stale u.route.at)).cell
claim_by moment s u c true h e l = claimed_care moment s u c h e l
claim_by moment s u c false h e l = h

claim_of_care : (moment : ℕ) (s : SessionKey) (c : Cell) (o : Option User) → CareFacts c → c.user ≡ o → CareFacts (claim_of o moment s c).cell
claim_of_care moment s c None h e = h
claim_of_care moment s c (Some u) h e = claim_by moment s u c (nat_lt u.route.at s.at) h e refl

pub claim_care : (moment : ℕ) (s : SessionKey) (c : Cell) → CareFacts c → CareFacts (claim moment s c).cell
claim_care moment s c h = claim_of_care moment s c c.user h refl

-- ---- Attach

-- a session that was there, or that is displaced now
record Beside (c : Cell) (x : Session) : Type 0 where
  pub within : IsWithin x.at c.user
  pub there : In x c.sessions ⊎ (x.displaced ≡ true)

not_routed : (o : Option User) (x : Session) → x.displaced ≡ true → is_routed o x ≡ true → ⊥
not_routed o x e d = let b = and_left (not x.displaced) (is_routed_to x.node x.at o) d in true_not_false (sym b ∙ ap not e)

attached_none : (s : SessionKey) (n : ℕ) (xs : List Session) → NonePass (is_attached_at s.node) xs → is_attached_at n (new_session s) ≡ true →
    NonePass (is_attached_at n) xs
attached_none s n xs f e = let q : s.node ≡ n = grind (arith, nat_tests) in subst (λ k. NonePass (is_attached_at k) xs) q f

joined_care : (s : SessionKey) (xs : List Session) (c : Cell) → CareFacts c → ((n : ℕ) → Single (is_attached_at n) xs) →
    NonePass (is_attached_at s.node) xs → ((x : Session) → In x xs → Beside c x) → IsWithin s.at c.user → CareFacts (joined s xs c)
joined_care s xs c h d f b w =
    let v = record c { sessions = xs ++ new_session s ∷ [] } in
    unmark_care s.node s.at v
    (sessions_care c (xs ++ new_session s ∷ []) h
    (λ n. single-snoc (is_attached_at n) (new_session s) xs (d n) (λ e. attached_none s n xs f e))
    (λ x i. elim (in-snoc x (new_session s) xs i) [ inl j ↦ (b x j).within | inr q ↦ subst (λ z. IsWithin z.at c.user) (sym q) w ])
    (λ x i. elim (in-snoc x (new_session s) xs i) [
      | inl j ↦ elim (b x j).there [ inl k ↦ h.minded x k | inr k ↦ λ e r l. absurd (not_routed c.user x k e) ]
      | inr q ↦ λ e r l. ByCheck (ap (λ z. z.check) q)
    ]))
    (λ x i e. elim (in-snoc x (new_session s) xs i) [ inl j ↦ absurd (true_not_false (sym e ∙ f x j)) | inr q ↦ ap (λ z. z.check) q ])

displaced_back : (n : ℕ) (x : Session) → is_attached_at n (displaced x) ≡ true → is_attached_at n x ≡ true
displaced_back n x e = cc

displaced_beside : (c : Cell) (n : ℕ) (y x : Session) → CareFacts c → find (is_attached_at n) c.sessions ≡ Some y →
    (x ≡ displaced y) ⊎ (In x c.sessions × (is_attached_at n x ≡ false)) → Beside c x
displaced_beside c n y x h e (inl q) =
    record { within = subst (λ z. IsWithin z.at c.user) (sym q) (h.sessions y (find_in (is_attached_at n) y c.sessions e)); there = inr (ap (λ z. z.displaced) q) }
displaced_beside c n y x h e (inr q) = record { within = h.sessions x q.0; there = inl q.0 }

displaced_gone : (n : ℕ) (y x : Session) (c : Cell) → (x ≡ displaced y) ⊎ (In x c.sessions × (is_attached_at n x ≡ false)) → is_attached_at n x ≡ false
displaced_gone n y x c (inl q) = ap (is_attached_at n) q
displaced_gone n y x c (inr q) = q.1

outrun_care : (s : SessionKey) (y : Session) (c : Cell) (b : Bool) → CareFacts c → find (is_attached_at s.node) c.sessions ≡ Some y → IsWithin s.at c.user →
    CareFacts (if b then outcome c (Outrun y.at) else outcome (joined s (with_first (is_attached_at s.node) displaced c.sessions) c) (Attached (Some y.at))).cell
outrun_care s y c true h e w = h
outrun_care s y c false h e w =
    let xs = with_first (is_attached_at s.node) displaced c.sessions in
    joined_care s xs c h (λ n. single-with_first (is_attached_at n) (is_attached_at s.node) displaced c.sessions (displaced_back n) (h.alone n))
    (λ x i. displaced_gone s.node y x c (single_first (is_attached_at s.node) displaced y x c.sessions (h.alone s.node) e i))
    (λ x i. displaced_beside c s.node y x h e (single_first (is_attached_at s.node) displaced y x c.sessions (h.alone s.node) e i))
    w

beside_care : (s : SessionKey) (o : Option Session) (c : Cell) → CareFacts c → find (is_attached_at s.node) c.sessions ≡ o → IsWithin s.at c.user →
    CareFacts (attach_beside o s c).cell
beside_care s None c h e w =
    joined_care s c.sessions c h h.alone (none_found (is_attached_at s.node) c.sessions e) (λ x i. record { within = h.sessions x i; there = inl i }) w
beside_care s (Some y) c h e w = outrun_care s y c (nat_lt s.at y.at) h e w

claim_at : (s : SessionKey) (k : Claim) → is_claim s k ≡ true → k.at ≡ s.at
claim_at s k e = grind (arith, nat_tests)

attach_by : (s : SessionKey) (c : Cell) (b : Bool) → CareFacts c → list_any (is_claim s) c.claims ≡ b →
    CareFacts (if b then attach_beside (find (is_attached_at s.node) c.sessions) s (record c { claims = without_first (is_claim s) c.claims }) else outcome c NotClaimed).cell
attach_by s c false h e = h
attach_by s c true h e =
    let v = record c { claims = without_first (is_claim s) c.claims } in
    let k = among (is_claim s) c.claims e in
    beside_care s (find (is_attached_at s.node) c.sessions) v (claims_care c (without_first (is_claim s) c.claims) h (λ x i. h.claims x (in-without_first (is_claim s) x c.claims i))) refl
    (subst (λ a. IsWithin a c.user) (claim_at s k.one k.passes) (h.claims k.one k.member))

pub attach_care : (s : SessionKey) (c : Cell) → CareFacts c → CareFacts (attach s c).cell
attach_care s c h = attach_by s c (list_any (is_claim s) c.claims) h refl

-- ---- Register

with_channel_care : (k : ChannelId) (t : Token) (c : Cell) (o : Option User) → CareFacts c → c.user ≡ o → CareFacts (record c { user = with_channel k t o })
with_channel_care k t c None h e = subst (λ z. CareFacts (record c { user = z })) e h
with_channel_care k t c (Some u) h e =
    user_care c (with_channel k t (Some u)) h (λ i. subst (λ z. Single (is_row i) (rows_of z)) e (h.rows i)) (λ a w. subst (IsWithin a) e w)
    (λ x i d r j. h.minded x i (ap (λ z. is_routed z x) e ∙ d) r (subst (λ z. In r (rows_of z)) (sym e) j))

register_beside_care : (k : ChannelId) (t : Token) (c : Cell) (x : Option Channel) → CareFacts c → CareFacts (register_beside x k t c).cell
register_beside_care k t c (Some x) h = h
register_beside_care k t c None h = with_channel_care k t c c.user h refl

register_by : (k : ChannelId) (t : Token) (c : Cell) (b : Bool) → CareFacts c →
    CareFacts (if b then register_beside (find (is_channel k) (channels_of c.user)) k t c else outcome c NoSession).cell
register_by k t c true h = register_beside_care k t c (find (is_channel k) (channels_of c.user)) h
register_by k t c false h = h

pub register_care : (s : SessionKey) (k : ChannelId) (t : Token) (c : Cell) → CareFacts c → CareFacts (register s k t c).cell
register_care s k t c h = register_by k t c (is_some (attached s c)) h

-- ---- Renew: the session that is routed again has its check mark

renewed_within : (moment a : ℕ) (s : SessionKey) (o : Option User) → is_renewable s o ≡ true → IsWithin a o → IsWithin a (renewed moment s o)
renewed_within moment a s None e w = w
renewed_within moment a s (Some u) e w =
    let q = and_left (u.route.at == s.at) (is_none u.route.node) e in
    grind (arith, nat_tests, q, w)

renewed_single : (moment : ℕ) (i : MsgId) (s : SessionKey) (o : Option User) → Single (is_row i) (rows_of o) → Single (is_row i) (rows_of (renewed moment s o))
renewed_single moment i s None d = d
renewed_single moment i s (Some u) d = unmarked_single i (Some (claimed_user moment s u)) d

renewed_there : (moment : ℕ) (s : SessionKey) (o : Option User) (x : Session) → is_routed (renewed moment s o) x ≡ true → is_attached s x ≡ true
renewed_there moment s None x d = absurd (true_not_false (sym (and_right (not x.displaced) false d)))
renewed_there moment s (Some u) x d =
    let a = and_left (not x.displaced) ((s.node == x.node) && (s.at == x.at)) d in
    let b = and_right (not x.displaced) ((s.node == x.node) && (s.at == x.at)) d in
    let e = and_left (s.node == x.node) (s.at == x.at) b in
    let f = and_right (s.node == x.node) (s.at == x.at) b in
    both (is_session s x) (not x.displaced) (both (x.node == s.node) (x.at == s.at) (grind (arith, nat_tests, e)) (grind (arith, nat_tests, f))) a

attached_narrow : (s : SessionKey) (x : Session) → is_attached s x ≡ true → is_attached_at s.node x ≡ true
attached_narrow s x e =
    let a = and_left (is_session s x) (not x.displaced) e in
    both (not x.displaced) (x.node == s.node) (and_right (is_session s x) (not x.displaced) e) (and_left (x.node == s.node) (x.at == s.at) a)

renewed_care : (moment : ℕ) (s : SessionKey) (c : Cell) (y : Session) → CareFacts c → attached s c ≡ Some y → is_renewable s c.user ≡ true →
    CareFacts (record (with_session s checked c) { user = renewed moment s c.user })
renewed_care moment s c y h e g =
    let v = with_session s checked c in
    user_care v (renewed moment s c.user) (check_care c (is_attached s) y h e) (λ i. renewed_single moment i s c.user (h.rows i))
    (λ a w. renewed_within moment a s c.user g w)
    (λ x i d r j. ByCheck (elim (single_first (is_attached s) checked y x c.sessions (single-narrow (is_attached_at s.node) (is_attached s) c.sessions (attached_narrow s) (h.alone s.node)) e i) [
      | inl q ↦ ap (λ z. z.check) q
      | inr q ↦ absurd (true_not_false (sym (renewed_there moment s c.user x d) ∙ q.1))
    ]))

renew_by : (moment : ℕ) (s : SessionKey) (c : Cell) (y : Session) (b : Bool) → CareFacts c → attached s c ≡ Some y → is_renewable s c.user ≡ b →
    CareFacts (if b then outcome (record (with_session s checked c) { user = renewed moment s c.user }) Renewed else outcome c Kept).cell
renew_by moment s c y true h e g = renewed_care moment s c y h e g
renew_by moment s c y false h e g = h

renew_of : (moment : ℕ) (s : SessionKey) (c : Cell) (o : Option Session) → CareFacts c → attached s c ≡ o →
    CareFacts (if is_some o then (if is_renewable s c.user then outcome (record (with_session s checked c) { user = renewed moment s c.user }) Renewed else outcome c Kept) else outcome c NoSession).cell
renew_of moment s c None h e = h
renew_of moment s c (Some y) h e = renew_by moment s c y (is_renewable s c.user) h e refl

pub renew_care : (moment : ℕ) (s : SessionKey) (c : Cell) → CareFacts c → CareFacts (renew moment s c).cell
renew_care moment s c h = renew_of moment s c (attached s c) h refl

-- ---- the route row loses a session: then none is routed

unrouted_none : (o : Option User) (x : Session) → is_routed (unrouted o) x ≡ true → ⊥
unrouted_none None x d = true_not_false (sym (and_right (not x.displaced) false d))
unrouted_none (Some u) x d = true_not_false (sym (and_right (not x.displaced) false d))

unrouted_single : (i : MsgId) (o : Option User) → Single (is_row i) (rows_of o) → Single (is_row i) (rows_of (unrouted o))
unrouted_single i None d = d
unrouted_single i (Some u) d = d

unrouted_within : (a : ℕ) (o : Option User) → IsWithin a o → IsWithin a (unrouted o)
unrouted_within a None w = w
unrouted_within a (Some u) w = w

cleared_by : (c : Cell) (b : Bool) → CareFacts c → CareFacts (record c { user = if b then unrouted c.user else c.user })
cleared_by c false h = h
cleared_by c true h =
    user_care c (unrouted c.user) h (λ i. unrouted_single i c.user (h.rows i)) (λ a w. unrouted_within a c.user w) (λ x i d r j. absurd (unrouted_none c.user x d))

pub cleared_care : (n a : ℕ) (c : Cell) → CareFacts c → CareFacts (record c { user = cleared_for n a c.user })
cleared_care n a c h = cleared_by c (is_routed_to n a c.user) h

named_place : (n a : ℕ) (x : Session) (o : Option User) → names_session n a x ≡ true → is_routed_to x.node x.at o ≡ is_routed_to n a o
named_place n a x o k =
    let e : x.node ≡ n = grind (arith, nat_tests) in
    let f : x.at ≡ a = grind (arith, nat_tests) in
    ap (λ m. is_routed_to m x.at o) e ∙ ap (λ b. is_routed_to n b o) f

cleared_other : (n a : ℕ) (o : Option User) (x : Session) (b : Bool) → is_routed_to n a o ≡ b → is_routed (if b then unrouted o else o) x ≡ true →
    names_session n a x ≡ true → ⊥
cleared_other n a o x true e d k = unrouted_none o x d
cleared_other n a o x false e d k =
    true_not_false (sym (and_right (not x.displaced) (is_routed_to x.node x.at o) d) ∙ named_place n a x o k ∙ e)

-- ---- Clear of a flight and of a saver, and Release

clear_at_care : (o : Op) (f : FlightRow) (c : Cell) (stage : Stage) → CareFacts c → flight o c ≡ Some f → f.stage ≡ stage → CareFacts (clear_at stage o c).cell
clear_at_care o f c (AtClear n a) h e s =
    let v = record c { user = cleared_for n a c.user } in
    let stops : Stops stage_covers v (AtClear n a) = λ x i d k. absurd (cleared_other n a c.user x (is_routed_to n a c.user) refl d k) in
    end_care v o f (cleared_care n a c h) e (subst (Stops stage_covers v) (sym s) stops)
clear_at_care o f c _ h e s = h

clear_of_care : (o : Op) (c : Cell) (f : Option FlightRow) → CareFacts c → flight o c ≡ f → CareFacts (clear_of f o c).cell
clear_of_care o c None h e = h
clear_of_care o c (Some f) h e = clear_at_care o f c f.stage h e refl

pub clear_care : (o : Op) (c : Cell) → CareFacts c → CareFacts (clear o c).cell
clear_care o c h = clear_of_care o c (flight o c) h refl

saver_clear_at_care : (s : SessionKey) (v : Saver) (c : Cell) (stage : Stage) → CareFacts c → saver s c ≡ Some v → v.stage ≡ stage →
    CareFacts (saver_clear_at stage s c).cell
saver_clear_at_care s v c (AtClear n a) h e q =
    let w = record c { user = cleared_for n a c.user } in
    let stops : Stops saver_stage_covers w (AtClear n a) = λ x i d k. absurd (cleared_other n a c.user x (is_routed_to n a c.user) refl d k) in
    saver_end_care w s v (cleared_care n a c h) e (λ x i d r k t. subst (Stops saver_stage_covers w) (sym q) stops x i d t)
saver_clear_at_care s v c _ h e q = h

saver_clear_of_care : (s : SessionKey) (c : Cell) (v : Option Saver) → CareFacts c → saver s c ≡ v → CareFacts (saver_clear_of v s c).cell
saver_clear_of_care s c None h e = h
saver_clear_of_care s c (Some v) h e = saver_clear_at_care s v c v.stage h e refl

pub saver_clear_care : (s : SessionKey) (c : Cell) → CareFacts c → CareFacts (saver_clear s c).cell
saver_clear_care s c h = saver_clear_of_care s c (saver s c) h refl

release_at_care : (s : SessionKey) (c : Cell) (stage : Stage) → CareFacts c → CareFacts (release_at stage s c).cell
release_at_care s c AtSaving h = cleared_care s.node s.at c h
release_at_care s c _ h = h

release_of_care : (s : SessionKey) (c : Cell) (v : Option Saver) → CareFacts c → CareFacts (release_of v s c).cell
release_of_care s c None h = h
release_of_care s c (Some v) h = release_at_care s c v.stage h

pub release_care : (s : SessionKey) (c : Cell) → CareFacts c → CareFacts (release s c).cell
release_care s c h = release_of_care s c (saver s c) h

-- ---- a user is dropped

dropped_care : (c : Cell) → CareFacts (dropped c)
dropped_care c = record { rows = λ i. tt; alone = λ n. tt; sessions = λ x i. elim i [ ]; claims = λ k i. elim i [ ]; minded = λ x i e r j. elim i [ ] }

drop_by : (c : Cell) (b : Bool) → CareFacts c → CareFacts (if b then outcome (dropped c) Dropped else outcome c Kept).cell
drop_by c true h = dropped_care c
drop_by c false h = h

pub drop_care : (c : Cell) → CareFacts c → CareFacts (drop_user c).cell
drop_care c h = drop_by c (is_some c.user) h

pub expire_care : (moment : ℕ) (c : Cell) → CareFacts c → CareFacts (expire moment c).cell
expire_care moment c h = drop_by c (is_idle_user moment c.user c.sessions) h
