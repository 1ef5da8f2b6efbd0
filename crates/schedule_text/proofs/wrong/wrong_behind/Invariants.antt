use Rattle.std.proofs.Common.{◌≡◌}
use Rattle.schedule_text.specs.Wrongs.{behind}
use Rattle.schedule_text.proofs.wrong.wrong_behind.Given as goal

abbrev pub invariant-loop-place : goal.invariant-loop-place
invariant-loop-place l = l.rest ≡ behind l.place l.fn.words
