-- What the words of `serve` ask for.
use Rattle.std.specs.Prelude.{◌≡◌, ℕ, ◌+◌, ◌≤◌, ◌||◌, Bool, true, List, [], ◌∷◌, codes, decimal, nat_le}

-- how many nodes of each kind there are to be, and the port of the first of each kind; each further one has the next port
pub record PlanValue : Type 0 where
  pub connections : ℕ
  pub endpoints : ℕ
  pub connection_port : ℕ
  pub endpoint_port : ℕ

-- the ports of one kind all stand before those of the other
abbrev pub are_apart : PlanValue → Bool
are_apart p = nat_le (p.connection_port + p.connections) p.endpoint_port || nat_le (p.endpoint_port + p.endpoints) p.connection_port

-- from 1 to 8 nodes of each kind, and ports from 1 to 65535 of which no two are equal
pub record IsPlan (p : PlanValue) : Type 0 where
  pub some_connections : 1 ≤ p.connections
  pub few_connections : p.connections ≤ 8
  pub some_endpoints : 1 ≤ p.endpoints
  pub few_endpoints : p.endpoints ≤ 8
  pub first_connection : 1 ≤ p.connection_port
  pub last_connection : p.connection_port + p.connections ≤ 65536
  pub first_endpoint : 1 ≤ p.endpoint_port
  pub last_endpoint : p.endpoint_port + p.endpoints ≤ 65536
  pub apart : are_apart p ≡ true

-- the words, with no zeros in front of a number
abbrev pub serve_words : PlanValue → List (List ℕ)
serve_words p = codes "serve" ∷ decimal p.connections ∷ decimal p.endpoints ∷ decimal p.connection_port ∷ decimal p.endpoint_port ∷ []
