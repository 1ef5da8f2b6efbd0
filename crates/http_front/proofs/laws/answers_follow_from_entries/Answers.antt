use Rattle.http_front.proofs.CodeLemmas.{gone_only, taken_always, taken_only, unavailable_only}
use Rattle.http_front.proofs.laws.answers_follow_from_entries.Goals as goal

pub returns-clause-only : goal.returns-clause-only
returns-clause-only c = taken_only

pub returns-clause-always : goal.returns-clause-always
returns-clause-always c = taken_always

pub returns-clause-gone : goal.returns-clause-gone
returns-clause-gone c = gone_only

pub returns-clause-unavailable : goal.returns-clause-unavailable
returns-clause-unavailable c = unavailable_only
