use Rattle.std.specs.Prelude.{◌≡◌, vec_len}
use Rattle.node_loops.specs.Together.{raised}
use Rattle.serve_run.proofs.doors.listen_all.Given as goal

abbrev pub invariant-loop-k : goal.invariant-loop-k
invariant-loop-k g l =
    (vec_len l.listeners ≡ l.k)
    × (g.N.Ports.given l.ports ≡ raised l.k (g.N.Ports.given l.fn.ports))
    × (g.N.Ports.faults l.ports ≡ g.N.Ports.faults l.fn.ports)
