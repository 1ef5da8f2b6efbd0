use Rattle.std.proofs.Common.{◌≡◌, ◌-◌, ◌≤◌, drop, length}
use Rattle.schedule_text.specs.Words.{trimmed}
use Rattle.schedule_text.proofs.hex_text.zeros_in_front.Given as goal

abbrev pub invariant-loop-zeros : goal.invariant-loop-zeros
invariant-loop-zeros l = record { within : l.zeros ≤ length l.digits; same : trimmed (drop l.zeros l.digits) ≡ trimmed l.digits }

abbrev pub decreases-loop-zeros : goal.decreases-loop-zeros
decreases-loop-zeros l = length l.digits - l.zeros
