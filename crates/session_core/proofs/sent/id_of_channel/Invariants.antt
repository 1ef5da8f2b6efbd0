use Rattle.std.proofs.Common.{◌≡◌, filter, take}
use Rattle.std.specs.Prelude.{not}
use Rattle.push_model.specs.Names.{is_same_channel}
use Rattle.session_core.proofs.sent.id_of_channel.Given as goal

abbrev pub invariant-loop-place : goal.invariant-loop-place
invariant-loop-place l = filter (λ y. not (is_same_channel y.0 l.c)) (take l.place l.ids) ≡ take l.place l.ids
