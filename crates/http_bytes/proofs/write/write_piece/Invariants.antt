use Rattle.std.proofs.Common.{◌≡◌, ◌≤◌}
use Rattle.std.specs.Io.KnownBytes.{Keeps}
use Rattle.http_bytes.proofs.write.write_piece.Given as goal

abbrev pub invariant-loop : goal.invariant-loop
invariant-loop g l = record { written : Keeps (g.W.Wire.written l.initial.wire) (g.W.Wire.written l.wire); left : Keeps (g.W.Wire.left l.initial.wire) (g.W.Wire.left l.wire); faults : g.W.Wire.faults l.wire ≡ g.W.Wire.faults l.initial.wire; lulls : l.counter ≤ g.W.Wire.lulls l.wire }
