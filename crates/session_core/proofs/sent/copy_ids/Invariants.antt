use Rattle.std.proofs.Common.{◌≡◌, take}
use Rattle.session_core.proofs.sent.copy_ids.Given as goal

abbrev pub invariant-loop-place : goal.invariant-loop-place
invariant-loop-place l = l.copied ≡ take l.place l.ids
