use Rattle.std.proofs.Common.{◌≡◌, map, take}
use Rattle.push_exchange.specs.Sums.{all_tallies}
use Rattle.push_exchange.proofs.shards.tally_all.Given as goal

abbrev pub invariant-loop-shard : goal.invariant-loop-shard
invariant-loop-shard l = l.all ≡ all_tallies (map (λ w. w.tally) (take l.shard-index l.shards))
