use Rattle.std.proofs.Common.{◌≡◌}
use Rattle.std.specs.Prelude.{map}
use Rattle.shard_core.specs.Counting.{counts_of}
use Rattle.shard_core.proofs.cells.count_cells.Given as goal

abbrev pub invariant-loop-cell : goal.invariant-loop-cell
invariant-loop-cell l = l.counts ≡ counts_of (map (λ c. c.now) l.yielded)
