use Rattle.push_exchange.specs.Boards.{IsOver, passes_view}
use Rattle.board_bench.proofs.go_round.Given as goal

abbrev pub invariant-loop-shard : goal.invariant-loop-shard
invariant-loop-shard g l = IsOver l.exchange (passes_view l.passes)
