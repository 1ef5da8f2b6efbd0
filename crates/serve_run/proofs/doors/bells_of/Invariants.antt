use Rattle.std.specs.Prelude.{◌≡◌, vec_len}
use Rattle.serve_run.proofs.doors.bells_of.Given as goal

abbrev pub invariant-loop-k : goal.invariant-loop-k
invariant-loop-k g l = vec_len l.bells ≡ l.k
