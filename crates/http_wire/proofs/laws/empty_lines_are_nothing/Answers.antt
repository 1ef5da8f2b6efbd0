use Rattle.http_wire.proofs.Blanks.{blank_not_bad, blank_not_body}
use Rattle.http_wire.proofs.laws.empty_lines_are_nothing.Goals as goal

pub returns : goal.returns
returns c = record { not_body = blank_not_body; not_bad = blank_not_bad }
