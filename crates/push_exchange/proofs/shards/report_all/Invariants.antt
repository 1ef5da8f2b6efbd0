use Rattle.std.proofs.Common.{◌≡◌, map, take}
use Rattle.push_model.specs.ShardSteps.{counts}
use Rattle.push_exchange.specs.Sums.{all_counts}
use Rattle.push_exchange.proofs.shards.report_all.Given as goal

abbrev pub invariant-loop-k : goal.invariant-loop-k
invariant-loop-k l = (l.shards.items ≡ l.initial.shards.items) × (l.all ≡ all_counts (map counts (take l.k l.initial.shards.items)))
