use Rattle.std.proofs.Common.{◌≡◌, take, false}
use Rattle.std.specs.List.{list_any}
use Rattle.http_front.specs.Connections.{is_close_line}
use Rattle.http_front.proofs.closing.asks_to_close.Given as goal

abbrev pub invariant-loop-i : goal.invariant-loop-i
invariant-loop-i l = list_any is_close_line (take l.i l.head.lines) ≡ false
