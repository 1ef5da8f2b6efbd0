use Rattle.push_exchange.specs.Rounds.{IsOpened}
use Rattle.push_exchange.proofs.hall.open_all.Given as goal

abbrev pub invariant-loop-number : goal.invariant-loop-number
invariant-loop-number l = IsOpened l.number l.boards.items l.passes.items
