use Rattle.std.proofs.Common.{◌≡◌, filter, length}
use Rattle.std.specs.Prelude.{not}
use Rattle.push_model.specs.Names.{is_same_channel}
use Rattle.session_core.proofs.sent.remove_channel.Given as goal

abbrev pub invariant-loop-id : goal.invariant-loop-id
invariant-loop-id l = filter (λ y. not (is_same_channel y.0 l.c)) l.ids ≡ filter (λ y. not (is_same_channel y.0 l.c)) l.initial.ids

abbrev pub decreases-loop-id : goal.decreases-loop-id
decreases-loop-id l = length l.ids
