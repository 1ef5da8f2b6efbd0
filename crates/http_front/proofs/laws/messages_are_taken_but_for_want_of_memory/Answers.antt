use Rattle.http_front.proofs.CodeLemmas.{taken_or_wanted}
use Rattle.http_front.proofs.laws.messages_are_taken_but_for_want_of_memory.Goals as goal

pub returns : goal.returns
returns c = taken_or_wanted
