use Rattle.http_front.proofs.WrittenLemmas.{written_or_wanted}
use Rattle.http_front.proofs.laws.replies_are_written_but_for_want_of_memory.Goals as goal

pub returns : goal.returns
returns c = written_or_wanted
