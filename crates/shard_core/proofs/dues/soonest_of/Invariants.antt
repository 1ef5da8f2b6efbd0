use Rattle.std.specs.Prelude.{map}
use Rattle.shard_core.proofs.DueCells.{NoneDueOf}
use Rattle.shard_core.proofs.dues.soonest_of.Given as goal

abbrev pub invariant-loop-cell : goal.invariant-loop-cell
invariant-loop-cell l = NoneDueOf l.next (map (λ c. c.now) l.yielded)
