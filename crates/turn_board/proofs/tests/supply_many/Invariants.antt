use Rattle.std.proofs.Common.{◌≡◌}
use Rattle.turn_board.specs.Passes.{pass_number}
use Rattle.turn_board.proofs.tests.supply_many.Given as goal

abbrev pub invariant-loop-item : goal.invariant-loop-item
invariant-loop-item g l = (l.pass.seat.table_id ≡ l.initial.pass.seat.table_id) × (pass_number l.pass ≡ pass_number l.initial.pass)
