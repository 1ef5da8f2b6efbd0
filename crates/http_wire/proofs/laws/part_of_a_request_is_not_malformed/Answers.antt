use Rattle.http_wire.proofs.Undecided.{open_bad}
use Rattle.http_wire.proofs.laws.part_of_a_request_is_not_malformed.Goals as goal

pub returns : goal.returns
returns c = open_bad
