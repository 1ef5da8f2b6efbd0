use Rattle.http_front.proofs.ClosingLemmas.{line_closes, line_more}
use Rattle.std.proofs.Common.{◌∙◌}
use Rattle.http_front.proofs.closing.asks_to_close.Goals as goal

pub returns-then-is_close_line : goal.returns-then-is_close_line
returns-then-is_close_line c = line_closes c.args.head.now.lines c.loop-i.i _ _ c.line.ensures c.is_close_line.ensures c.if-is_close_line.true c.loop-i.invariant

pub loop-i-preserved : goal.loop-i-preserved
loop-i-preserved c = line_more c.args.head.now.lines c.loop-i.i _ _ c.line.ensures c.is_close_line.ensures c.loop-i.invariant ∙ c.if-is_close_line.false
