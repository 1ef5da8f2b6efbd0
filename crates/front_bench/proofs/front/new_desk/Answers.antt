use Rattle.front_bench.proofs.DeskLemmas.{new_above, new_honest}
use Rattle.front_bench.proofs.front.new_desk.Goals as goal

pub returns-clause-honest : goal.returns-clause-honest
returns-clause-honest c = new_honest c.new.result c.start-shard.result c.is_reached.ensures c.new.ensures.honest

pub returns-clause-above : goal.returns-clause-above
returns-clause-above c = new_above c.numbers_are_new_at_first.ensures.start c.new.result c.start-shard.result 1 c.start-shard.ensures c.new.ensures.fresh
