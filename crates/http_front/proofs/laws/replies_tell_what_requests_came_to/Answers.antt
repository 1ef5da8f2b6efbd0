use Rattle.http_front.proofs.CodeLemmas.{answered_code, answered_has}
use Rattle.http_front.proofs.laws.replies_tell_what_requests_came_to.Goals as goal

pub returns-clause-has : goal.returns-clause-has
returns-clause-has c = answered_has

pub returns-clause-no_other : goal.returns-clause-no_other
returns-clause-no_other c = answered_code
