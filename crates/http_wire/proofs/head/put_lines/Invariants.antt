use Rattle.std.proofs.Common.{◌≡◌, take, length}
use Rattle.std.specs.Prelude.{All}
use Rattle.httparse.specs.Spans.{IsHeaderWithin}
use Rattle.http_wire.specs.Heads.{lines_at}
use Rattle.http_wire.specs.Texts.{Grows, lines_in}
use Rattle.http_wire.proofs.head.put_lines.Given as goal

abbrev pub invariant-loop-span : goal.invariant-loop-span
invariant-loop-span l =
    Grows l.fn.texts.items l.texts.items × All (IsHeaderWithin (length l.texts.items)) l.lines.items
    × (lines_in l.texts.items l.lines.items ≡ lines_at l.bytes (take l.span-index l.spans))
