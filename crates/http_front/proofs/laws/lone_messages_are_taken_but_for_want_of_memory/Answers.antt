use Rattle.http_front.proofs.AloneLemmas.{alone_taken, connection_taken, grew_alone}
use Rattle.http_front.proofs.laws.lone_messages_are_taken_but_for_want_of_memory.Goals as goal

pub returns-clause-one : goal.returns-clause-one
returns-clause-one c = alone_taken

pub returns-clause-connection : goal.returns-clause-connection
returns-clause-connection c = connection_taken

pub returns-clause-alone : goal.returns-clause-alone
returns-clause-alone c = grew_alone
