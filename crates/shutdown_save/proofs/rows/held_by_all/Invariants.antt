use Rattle.std.proofs.Common.{◌≡◌, take, length}
use Rattle.std.specs.Prelude.{sum_by}
use Rattle.push_model.specs.Tallies.{capped}
use Rattle.shutdown_save.proofs.rows.held_by_all.Given as goal

abbrev pub invariant-loop-saver : goal.invariant-loop-saver
invariant-loop-saver l = l.total ≡ capped (sum_by (λ v. length (v.held)) (take l.saver-index l.savers))
