use Rattle.push_exchange.proofs.RoundLemmas.{AskSo}
use Rattle.push_exchange.proofs.hall.ask_all.Given as goal

abbrev pub invariant-loop-k : goal.invariant-loop-k
invariant-loop-k l = AskSo l.k l.all l.boards l.initial.passes.items l.passes.items
