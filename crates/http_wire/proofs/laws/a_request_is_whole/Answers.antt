use Rattle.http_wire.proofs.Blanks.{not_blank}
use Rattle.http_wire.proofs.Exclusive.{not_open, not_full, not_bad}
use Rattle.http_wire.proofs.laws.a_request_is_whole.Goals as goal

pub returns : goal.returns
returns c = record { not_open = not_open; not_full = not_full; not_bad = not_bad; not_blank = not_blank }
