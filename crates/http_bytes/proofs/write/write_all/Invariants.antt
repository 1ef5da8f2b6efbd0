use Rattle.std.proofs.Common.{◌≡◌, ◌≤◌, ◌-◌, length, take}
use Rattle.std.specs.Io.KnownBytes.{Appends, Keeps}
use Rattle.http_bytes.proofs.write.write_all.Given as goal

abbrev pub invariant-loop-at : goal.invariant-loop-at
invariant-loop-at g l = record { inside : l.at ≤ length l.bytes; written : Appends (g.W.Wire.written l.initial.wire) (g.W.Wire.written l.wire) (take l.at l.bytes); left : Keeps (g.W.Wire.left l.initial.wire) (g.W.Wire.left l.wire); faults : g.W.Wire.faults l.wire ≡ g.W.Wire.faults l.initial.wire }

abbrev pub decreases-loop-at : goal.decreases-loop-at
decreases-loop-at g l = length l.bytes - l.at
