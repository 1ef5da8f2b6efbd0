use Rattle.std.proofs.Common.{◌≡◌, take, length, filter}
use Rattle.std.specs.Prelude.{◌==◌, sum_by}
use Rattle.push_model.specs.Sessions.{held}
use Rattle.push_model.specs.Tallies.{capped}
use Rattle.node_registry.proofs.registry.held_on.Given as goal

abbrev pub invariant-loop-session : goal.invariant-loop-session
invariant-loop-session l = l.total ≡ capped (sum_by (λ x. length (held x)) (filter (λ x. x.node == l.node) (take l.session-index l.sessions)))
