-- The path of a push endpoint.
use Rattle.std.specs.Prelude.{ℕ, Bool, false, ◌&&◌, not, ◌==◌, List, [], ◌∷◌, ◌++◌, drop, Option, Some, None, if◌then◌else◌, codes}
use Rattle.std.specs.List.{before_first}
use Rattle.matchit.specs.Rows.{RowsOf, param_token}
use Rattle.matchit.specs.Router.{RouteOf}
use Rattle.matchit.specs.Seek.{has_slash}

-- the path of a target, which ends before the first `?`
abbrev pub path_of : List ℕ → List ℕ
path_of target = before_first (λ b. b == 63) target

-- one part of a path, which is not empty
abbrev pub is_part : List ℕ → Bool
is_part [] = false
is_part (b ∷ path) = not (has_slash (b ∷ path))

-- the prefix, and behind it one part
abbrev pub is_behind : List ℕ → List ℕ → Bool
is_behind [] path = is_part path
is_behind (x ∷ prefix) [] = false
is_behind (x ∷ prefix) (b ∷ path) = (x == b) && is_behind prefix path

abbrev pub is_push_path : List ℕ → Bool
is_push_path path = is_behind (codes "/wpush/v1/") path

-- the part behind the ten bytes, in which nothing is decoded
abbrev pub token_of : List ℕ → Option (List ℕ)
token_of target = if is_push_path (path_of target) then Some (drop 10 (path_of target)) else None

-- ---- the router

-- what it keeps of its one route
abbrev pub push_route : RouteOf (Unit {0})
push_route = record { pattern = codes "/wpush/v1/" ++ param_token ∷ []; text = codes "/wpush/v1/{token}"; names = (11, 16) ∷ []; value = tt }

abbrev pub push_routes : RowsOf (RouteOf (Unit {0}))
push_routes = (push_route.pattern, push_route) ∷ []
