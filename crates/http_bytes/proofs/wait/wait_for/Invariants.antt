use Rattle.std.proofs.Common.{◌≡◌, ◌≤◌, length}
use Rattle.std.specs.Io.KnownBytes.{Keeps}
use Rattle.http_bytes.specs.Moves.{FilledBy}
use Rattle.http_bytes.proofs.Waiting.{Gathers, to_come}
use Rattle.http_bytes.proofs.wait.wait_for.Given as goal

abbrev pub invariant-waiting : goal.invariant-waiting
invariant-waiting g l = record { read : Gathers l.filled (g.W.Wire.left l.initial.wire) (g.W.Wire.left l.wire) l.initial.rest l.rest; kept : Keeps (g.W.Wire.written l.initial.wire) (g.W.Wire.written l.wire); faults : FilledBy l.filled (g.W.Wire.faults l.initial.wire) (g.W.Wire.faults l.wire); idle : l.lulls ≤ g.W.Wire.lulls l.wire; few : l.lulls ≤ 1000; same : g.F.Form.sought l.form ≡ g.F.Form.sought l.initial.form }

abbrev pub decreases-waiting : goal.decreases-waiting
decreases-waiting g l = to_come l.filled (length l.rest) l.lulls
