use Rattle.client_messages.proofs.Bare.{bare_empty}
use Rattle.client_messages.proofs.read.is_bare.Goals as goal

pub returns-in-Some : goal.returns-in-Some
returns-in-Some c = bare_empty c.is_empty.result c.in-Some.members.now.entries _ c.in-Some.ensures c.is_empty.ensures
