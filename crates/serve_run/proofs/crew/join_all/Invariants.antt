use Rattle.std.specs.Prelude.{◌≡◌, ◌+◌, ℕ, vec_len}
use Rattle.node_loops.specs.Together.{raised}
use Rattle.push_exchange.specs.Boards.{passes_view}
use Rattle.serve_run.specs.Crews.{EachBeside, IsOpenedAlike}
use Rattle.serve_run.proofs.crew.join_all.Given as goal

abbrev pub invariant-loop-one : goal.invariant-loop-one
invariant-loop-one g l =
    (k : ℕ)
    × (vec_len l.fn.running ≡ vec_len l.running + k)
    × (g.S.Spawner.joined l.spawner ≡ raised k (g.S.Spawner.joined l.fn.spawner))
    × (g.S.Spawner.started l.spawner ≡ g.S.Spawner.started l.fn.spawner)
    × (g.S.Spawner.faults l.spawner ≡ g.S.Spawner.faults l.fn.spawner)
    × IsOpenedAlike (passes_view l.fn.passes) (passes_view l.passes)
    × EachBeside g.S.Spawner.runs (passes_view l.passes) l.running.items

abbrev pub decreases-loop-one : goal.decreases-loop-one
decreases-loop-one g l = vec_len l.running
