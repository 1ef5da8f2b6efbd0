use Rattle.std.proofs.Common.{◌≡◌}
use Rattle.std.specs.Prelude.{map, sum_by}
use Rattle.push_model.specs.NodeSteps.{orphaned_on}
use Rattle.push_model.specs.Tallies.{capped}
use Rattle.shard_core.proofs.cells.orphaned_on.Given as goal

abbrev pub invariant-loop-cell : goal.invariant-loop-cell
invariant-loop-cell l = l.orphaned ≡ capped (sum_by (orphaned_on l.node) (map (λ c. c.now) l.yielded))
