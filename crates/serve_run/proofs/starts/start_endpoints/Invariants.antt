use Rattle.std.specs.Prelude.{◌≡◌, ◌≤◌, ◌+◌, ℕ, vec_capacity, vec_len}
use Rattle.push_exchange.specs.Boards.{passes_view}
use Rattle.serve_run.specs.Crews.{Staffed}
use Rattle.serve_run.proofs.starts.start_endpoints.Given as goal

abbrev pub invariant-loop-listener : goal.invariant-loop-listener
invariant-loop-listener g l =
    (m : ℕ)
    × (vec_len l.fn.listeners ≡ m + vec_len l.listeners)
    × Staffed g.S.Spawner.runs (m + m) (passes_view l.fn.passes) (passes_view l.passes) l.fn.running.items l.running.items (g.S.Spawner.started l.fn.spawner) (g.S.Spawner.started l.spawner)
    × (g.S.Spawner.joined l.spawner ≡ g.S.Spawner.joined l.fn.spawner)
    × (g.S.Spawner.faults l.spawner ≡ g.S.Spawner.faults l.fn.spawner)
    × (vec_capacity l.fn.running ≤ vec_capacity l.running)
    × g.S.Spawner.can_start l.spawner

abbrev pub decreases-loop-listener : goal.decreases-loop-listener
decreases-loop-listener g l = vec_len l.listeners
