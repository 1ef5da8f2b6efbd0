use Rattle.std.proofs.Common.{◌≡◌}
use Rattle.std.specs.Prelude.{map, sum_by}
use Rattle.push_model.specs.NodeSteps.{held_on}
use Rattle.push_model.specs.Tallies.{capped}
use Rattle.shard_core.proofs.cells.held_on.Given as goal

abbrev pub invariant-loop-cell : goal.invariant-loop-cell
invariant-loop-cell l = l.held ≡ capped (sum_by (held_on l.node) (map (λ c. c.now) l.yielded))
