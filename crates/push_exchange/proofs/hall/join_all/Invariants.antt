use Rattle.std.proofs.Common.{◌≡◌, length}
use Rattle.push_exchange.proofs.RoundLemmas.{JoinSo}
use Rattle.push_exchange.proofs.hall.join_all.Given as goal

abbrev pub invariant-loop-other : goal.invariant-loop-other
invariant-loop-other l = JoinSo l.k l.boards l.initial.passes.items l.fn.others.items l.passes.items × (l.k ≡ length l.yielded)
