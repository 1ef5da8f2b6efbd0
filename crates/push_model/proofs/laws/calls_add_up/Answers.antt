use Rattle.push_model.proofs.DeskLemmas.{calls_none, mails_none, calls_more, mails_more, honest_after, none_by}
use Rattle.push_model.proofs.Routes.{honest_reached}
use Rattle.push_model.proofs.laws.calls_add_up.Goals as goal

pub returns-clause-none : goal.returns-clause-none
returns-clause-none c = λ a. (calls_none a, mails_none a)

pub returns-clause-calls : goal.returns-clause-calls
returns-clause-calls c = calls_more

pub returns-clause-mails : goal.returns-clause-mails
returns-clause-mails c = mails_more

pub returns-clause-honest : goal.returns-clause-honest
returns-clause-honest c = honest_after

pub returns-clause-foreign : goal.returns-clause-foreign
returns-clause-foreign c = none_by

pub returns-clause-reached : goal.returns-clause-reached
returns-clause-reached c = honest_reached
