use Rattle.std.proofs.Common.{◌≡◌, ◌≤◌, length, vec_capacity}
use Rattle.push_exchange.specs.Rounds.{AllEnded}
use Rattle.push_exchange.proofs.hall.finish_all.Given as goal

abbrev pub invariant-loop-pass : goal.invariant-loop-pass
invariant-loop-pass g l = AllEnded l.k l.fn.passes.items l.room.items × (l.k ≡ length l.yielded) × (16 ≤ vec_capacity l.room)
