use Rattle.std.proofs.Common.{◌≡◌, ◌+◌, ◌^◌, ◌<◌, ◌≤◌, false, drop, length}
use Rattle.std.specs.Fmt.{digits, digits_onto}
use Rattle.schedule_text.proofs.hex_text.HexText.of.Given as goal

abbrev pub invariant-loop-rest : goal.invariant-loop-rest
invariant-loop-rest l = record { len : length l.digits ≡ 32; low : 1 ≤ l.start; high : l.start ≤ 32; fits : l.rest < 16 ^ l.start; written : digits_onto (l.start + 32) 16 false l.rest (drop l.start l.digits) ≡ digits 16 false l.number }

abbrev pub decreases-loop-rest : goal.decreases-loop-rest
decreases-loop-rest l = l.rest
