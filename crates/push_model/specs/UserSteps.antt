-- How a user is made, routed and dropped.
use Rattle.std.specs.Prelude.{ℕ, Bool, false, List, Option, Some, None, is_some, nat_lt, nat_le, not, ◌&&◌, ◌+◌, ◌++◌, ◌∷◌, [], if◌then◌else◌}
use Rattle.std.specs.List.{list_any}
use Rattle.push_model.specs.declared.parts.Claim.{Claim}
use Rattle.push_model.specs.declared.reply.Reply.TheVariants.{Made, Taken, NoUser, Stale, Claimed, Kept, Dropped}
use Rattle.push_model.specs.SessionKey.{SessionKey}
use Rattle.push_model.specs.Sessions.{Session}
use Rattle.push_model.specs.Cells.{Cell, User, empty_cell}
use Rattle.push_model.specs.Outcomes.{Outcome, outcome}

-- ---- Create

abbrev pub new_user : ℕ → SessionKey → User
new_user moment s =
    record { route = record { node = Some s.node; at = s.at; touched = moment }; channels = []; rows = [] }

abbrev pub new_claim : SessionKey → Claim
new_claim s = record { node = s.node; at = s.at }

abbrev pub create : ℕ → SessionKey → Cell → Outcome
create moment s c =
    if is_some c.user
    then outcome c Taken
    else outcome (record c { user = Some (new_user moment s); claims = c.claims ++ new_claim s ∷ [] }) Made

-- ---- Claim: the route row takes the session, and the session's claim is open

abbrev pub claimed_user : ℕ → SessionKey → User → User
claimed_user moment s u = record u { route = record { node = Some s.node; at = s.at; touched = moment } }

abbrev pub claim_of : Option User → ℕ → SessionKey → Cell → Outcome
claim_of None moment s c = outcome c NoUser
claim_of (Some u) moment s c =
    if nat_lt u.route.at s.at
    then outcome (record c { user = Some (claimed_user moment s u); claims = c.claims ++ new_claim s ∷ [] }) (Claimed u.route.node)
    else outcome c (Stale u.route.at)

abbrev pub claim : ℕ → SessionKey → Cell → Outcome
claim moment s c = claim_of c.user moment s c

-- ---- a user is dropped: its flights stay

abbrev pub dropped : Cell → Cell
dropped c = record (empty_cell c.uaid) { flights = c.flights }

abbrev pub drop_user : Cell → Outcome
drop_user c = if is_some c.user then outcome (dropped c) Dropped else outcome c Kept

-- a user without an attached session that wasn't touched for so many seconds
abbrev pub is_idle_user : ℕ → Option User → List Session → Bool
is_idle_user moment None xs = false
is_idle_user moment (Some u) xs = not (list_any (λ x. not x.displaced) xs) && nat_le (u.route.touched + 5184000) moment

abbrev pub expire : ℕ → Cell → Outcome
expire moment c = if is_idle_user moment c.user c.sessions then outcome (dropped c) Dropped else outcome c Kept
