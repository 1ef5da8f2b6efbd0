-- The steps of a route row, as steps of its user.
use Rattle.std.proofs.Common.{◌≡◌, ℕ, Bool, true, false, [], ◌∷◌, ◌++◌, Some, refl}
use Rattle.std.specs.Prelude.{if◌then◌else◌}
use Rattle.push_model.specs.declared.reply.Reply.TheVariants.{Claimed, Stale}
use Rattle.push_model.specs.SessionKey.{SessionKey}
use Rattle.push_model.specs.Cells.{Cell, Route, User, cleared_for, unmarked}
use Rattle.push_model.specs.Outcomes.{outcome}
use Rattle.push_model.specs.UserSteps.{claim_of, new_claim}
use Rattle.push_model.specs.SessionSteps.{is_renewable, renewed}
use Rattle.push_model.specs.SaverSteps.{touched}
use Rattle.router_rows.specs.Routes.{cleared_if, is_open, is_outrun, is_routed, renewed_if, route_at, touched_at, without_node}

cleared_cases : (b : Bool) (u : User) → (if b then Some (record u { route = without_node u.route }) else Some u) ≡ Some (record u { route = if b then without_node u.route else u.route })
cleared_cases true u = refl
cleared_cases false u = refl

-- the user with the row cleared
pub cleared_for-Some : (n a : ℕ) (u : User) → cleared_for n a (Some u) ≡ Some (record u { route = cleared_if n a u.route })
cleared_for-Some n a u = cleared_cases (is_routed n a u.route) u

pub renewed_if-open : (n a moment : ℕ) (r : Route) → is_open a r ≡ true → renewed_if n a moment r ≡ route_at n a moment
renewed_if-open n a moment r fits = rw fits refl

pub renewed_if-other : (n a moment : ℕ) (r : Route) → is_open a r ≡ false → renewed_if n a moment r ≡ r
renewed_if-other n a moment r apart = rw apart refl

-- ---- the steps Claim, Renew and Close at a user who is there

pub claim_of-newer : (u : User) (moment : ℕ) (s : SessionKey) (c : Cell) → is_outrun s.at u.route ≡ true
    → claim_of (Some u) moment s c ≡ outcome (record c { user = Some (record u { route = route_at s.node s.at moment }); claims = c.claims ++ new_claim s ∷ [] }) (Claimed u.route.node)
claim_of-newer u moment s c newer = rw newer refl

pub claim_of-stale : (u : User) (moment : ℕ) (s : SessionKey) (c : Cell) → is_outrun s.at u.route ≡ false → claim_of (Some u) moment s c ≡ outcome c (Stale u.route.at)
claim_of-stale u moment s c stale = rw stale refl

pub is_renewable-Some : (s : SessionKey) (u : User) → is_renewable s (Some u) ≡ is_open s.at u.route
is_renewable-Some s u = refl

pub renewed-Some : (moment : ℕ) (s : SessionKey) (u : User) → renewed moment s (Some u) ≡ unmarked (Some (record u { route = route_at s.node s.at moment }))
renewed-Some moment s u = refl

pub touched-Some : (moment : ℕ) (u : User) → touched moment (Some u) ≡ Some (record u { route = touched_at moment u.route })
touched-Some moment u = refl
