use Rattle.std.proofs.Common.{◌≡◌}
use Rattle.std.specs.Prelude.{map}
use Rattle.push_model.specs.ShardSteps.{is_orphaned}
use Rattle.shard_core.specs.Listing.{first_listed}
use Rattle.shard_core.proofs.cells.orphaned_users.Given as goal

abbrev pub invariant-loop-cell : goal.invariant-loop-cell
invariant-loop-cell l = l.users ≡ first_listed is_orphaned (map (λ c. c.now) l.yielded)
