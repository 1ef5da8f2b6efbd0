use Rattle.push_exchange.specs.Boards.{IsOver, passes_view}
use Rattle.board_bench.proofs.serve.Given as goal

abbrev pub invariant-loop : goal.invariant-loop
invariant-loop g l = IsOver l.exchange (passes_view l.passes)
