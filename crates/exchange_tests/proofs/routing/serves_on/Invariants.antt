use Rattle.push_exchange.specs.Boards.{passes_view}
use Rattle.exchange_tests.specs.Callers.{IsCaller}
use Rattle.exchange_tests.proofs.routing.serves_on.Given as goal

abbrev pub invariant-loop-k : goal.invariant-loop-k
invariant-loop-k g l = IsCaller l.exchange l.shard l.by (passes_view l.passes)
