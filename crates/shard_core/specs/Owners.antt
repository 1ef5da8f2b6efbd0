-- Whose each thing of a user is, by an index that is asked in place of all the cells.
use Rattle.std.specs.Prelude.{◌≡◌, ℕ, true, false, Bool, List, Option, Some, None, IfSome, is_some, find, if◌then◌else◌}
use Rattle.std.specs.List.{list_any}
use Rattle.std.specs.Map.{lookup}
use Rattle.std.specs.Ordering.{nat_cmp, ordering_then}
use Rattle.std.specs.Cmp.Lexicographic.{slice_cmp}
use Rattle.std.specs.BTreeMap.{is_at}
use Rattle.push_model.specs.declared.ids.Op.{Op}
use Rattle.push_model.specs.declared.ids.Token.{Token}
use Rattle.push_model.specs.declared.ids.Uaid.{Uaid}
use Rattle.push_model.specs.declared.step.Step.{Step}
use Rattle.push_model.specs.declared.step.Step.TheVariants.{Register, Expire, DropUser}
use Rattle.push_model.specs.declared.reply.Reply.{Reply}
use Rattle.push_model.specs.declared.reply.Reply.TheVariants.{End}
use Rattle.push_model.specs.Cells.{Cell, is_flight, is_token, channels_of}
use Rattle.push_model.specs.SessionSteps.{lacks}
use Rattle.push_model.specs.UserSteps.{is_idle_user}
use Rattle.push_model.specs.Worlds.{cell_at, has_token_in}
use Rattle.push_model.specs.Steps.{Action, OnUser, OnFlight, OnShard, action}

-- ---- flights

abbrev pub has_flight : Op → Cell → Bool
has_flight o c = list_any (is_flight o) c.flights

-- the number of the user whom the index names for the flight
abbrev pub flight_owner : List ((ℕ × ℕ) × ℕ) → Op → Option ℕ
flight_owner rows o = lookup (is_at (λ k. ordering_then (nat_cmp o.pass k.0) (nat_cmp o.k k.1))) rows

-- the flight whose step it is
abbrev pub flight_of : Action → Option Op
flight_of (OnFlight o f) = Some o
flight_of (OnUser u f) = None
flight_of (OnShard f) = None

abbrev pub is_end : Reply → Bool
is_end (End code) = true
is_end _ = false

-- the flight that ended with the step, by its reply
abbrev pub ended : Step → Reply → Option Op
ended x r = if is_end r then flight_of (action 0 x) else None

-- ---- tokens

abbrev pub holds : Token → Cell → Bool
holds t c = list_any (is_token t) (channels_of c.user)

-- the number of the user whom the index names for the token
abbrev pub token_owner : List (List ℕ × ℕ) → Token → Option ℕ
token_owner rows t = lookup (is_at (slice_cmp nat_cmp t.0)) rows

-- the token that the step brings the user
abbrev pub brought : Step → Cell → Option Token
brought (Register s h t) c = if lacks s h c then Some t else None
brought _ c = None

-- the step drops the user, or there is none
abbrev pub drops : ℕ → Step → Cell → Bool
drops moment (Expire u) c = is_idle_user moment c.user c.sessions
drops moment (DropUser u) c = true
drops moment _ c = false

-- no cell has the token that it brings
abbrev pub BringsFree : Step → Uaid → List (ℕ × Cell) → Type 0
BringsFree x u es = IfSome (brought x (cell_at es u)) (λ t. find (has_token_in t) es ≡ None)

-- ---- either

-- For each thing that a cell has, the index names that cell's user. It may name one for other things too.
abbrev pub IsComplete : {K : Type 0} → (K → Cell → Bool) → (K → Option ℕ) → List (ℕ × Cell) → Type 0
IsComplete has owner es = (n : ℕ) → IfSome (lookup (is_at (nat_cmp n)) es) (λ c. (k : _) → has k c ≡ true → owner k ≡ Some n)

-- The cell is there, and has it.
abbrev pub IsHeld : (Cell → Bool) → Option Cell → Type 0
IsHeld p None = ⊥
IsHeld p (Some c) = p c ≡ true

-- the index names nobody for it, or a user whose cell has it
abbrev pub NamesHolder : {K : Type 0} → (K → Cell → Bool) → (K → Option ℕ) → List (ℕ × Cell) → K → Type 0
NamesHolder has owner es k = IfSome (owner k) (λ n. IsHeld (has k) (lookup (is_at (nat_cmp n)) es))

-- The index names a user for a thing only where that user's cell has it. With IsComplete, it has exactly the things of the cells.
abbrev pub IsSound : {K : Type 0} → (K → Cell → Bool) → (K → Option ℕ) → List (ℕ × Cell) → Type 0
IsSound has owner es = (k : _) → NamesHolder has owner es k

abbrev pub passing : (Cell → Bool) → Option Cell → Option Cell
passing p None = None
passing p (Some c) = if p c then Some c else None

-- the cell of the user whom the index names, if it has the thing
abbrev pub owned : (Cell → Bool) → Option ℕ → List (ℕ × Cell) → Option Cell
owned p None es = None
owned p (Some n) es = passing p (lookup (is_at (nat_cmp n)) es)

-- whom the index names, if that user's cell has the thing
abbrev pub if_held : (Cell → Bool) → Option ℕ → List (ℕ × Cell) → Option ℕ
if_held p owner es = if is_some (owned p owner es) then owner else None
