-- What a call of a form in memory answers, and what it leaves.
use Rattle.std.specs.Prelude.{ℕ, Bool, List, [], ◌∷◌, drop, Option, Some, None, if◌then◌else◌}
use Rattle.push_outside.specs.Counts.{next_count}
use Rattle.push_outside.specs.Calls.{is_listed}
use Rattle.push_ports.specs.FormValues.{ListListenerValue, ListPortsValue, FailSpawnerValue}
use Rattle.push_ports.specs.declared.listener.Accepted.{Accepted}
use Rattle.push_ports.specs.declared.listener.Accepted.TheVariants.{Got, NotYet}
use Rattle.push_ports.specs.Accepts.{given_after, lulls_after_accept}

-- ---- listeners

-- an accept gives the first wire that is left
abbrev pub accepted_of : {W : Type 0} → List W → Accepted W
accepted_of [] = NotYet
accepted_of (wire ∷ rest) = Got wire

-- the listener after an accept
abbrev pub listener_after : {W : Type 0} → ListListenerValue W → ListListenerValue W
listener_after s =
    record {
      left = drop 1 s.left;
      given = given_after (accepted_of s.left) s.given;
      lulls = lulls_after_accept (accepted_of s.left) s.lulls;
    }

-- a listener of these wires, before its first accept
abbrev pub new_listener : {W : Type 0} → List W → ListListenerValue W
new_listener wires = record { left = wires; given = 0; lulls = 0 }

-- ---- ports

-- the wires of the next listener: of the first lot, or none where no lot is left
abbrev pub first_lot : {W : Type 0} → List (List W) → List W
first_lot [] = []
first_lot (lot ∷ rest) = lot

-- whether the next listen fails
abbrev pub fails_listen : {W : Type 0} → ListPortsValue W → Bool
fails_listen s = is_listed s.failing (next_count s.calls)

-- what the next listen gives
abbrev pub opened_of : {W : Type 0} → ListPortsValue W → Option (ListListenerValue W)
opened_of s = if fails_listen s then None else Some (new_listener (first_lot s.left))

-- the ports after a listen
abbrev pub ports_after : {W : Type 0} → ListPortsValue W → ListPortsValue W
ports_after s =
    record {
      left = if fails_listen s then s.left else drop 1 s.left;
      calls = next_count s.calls;
      failing = s.failing;
      faults = if fails_listen s then next_count s.faults else s.faults;
      given = if fails_listen s then s.given else next_count s.given;
    }

-- ---- spawners

-- whether the next start fails
abbrev pub fails_start : FailSpawnerValue → Bool
fails_start s = is_listed s.failing (next_count s.calls)

-- what the next start gives
abbrev pub started_or_not : {J : Type 0} → FailSpawnerValue → J → Option J
started_or_not s job = if fails_start s then None else Some job

-- the spawner after a start
abbrev pub spawner_after_start : FailSpawnerValue → FailSpawnerValue
spawner_after_start s =
    record {
      calls = next_count s.calls;
      failing = s.failing;
      faults = if fails_start s then next_count s.faults else s.faults;
      started = if fails_start s then s.started else next_count s.started;
      joined = s.joined;
    }

-- the spawner after a join
abbrev pub spawner_after_join : FailSpawnerValue → FailSpawnerValue
spawner_after_join s =
    record {
      calls = next_count s.calls;
      failing = s.failing;
      faults = s.faults;
      started = s.started;
      joined = next_count s.joined;
    }
