use Rattle.std.proofs.Common.{◌≤◌, vec_capacity}
use Rattle.push_exchange.proofs.RoundLemmas.{SplitSo}
use Rattle.push_exchange.proofs.hall.split_all.Given as goal

abbrev pub invariant-loop-k : goal.invariant-loop-k
invariant-loop-k g l = SplitSo l.k l.boards l.initial.passes.items l.passes.items l.room.items × (16 ≤ vec_capacity l.room)
