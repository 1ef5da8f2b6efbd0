use Rattle.push_model.proofs.Routes.{fresh_absent, own_begins, own_goes_on, own_waits}
use Rattle.push_model.proofs.laws.routes_go_on.Goals as goal

pub returns-clause-fresh : goal.returns-clause-fresh
returns-clause-fresh c = fresh_absent

pub returns-clause-waits : goal.returns-clause-waits
returns-clause-waits c = own_waits

pub returns-clause-begins : goal.returns-clause-begins
returns-clause-begins c = own_begins

pub returns-clause-goes_on : goal.returns-clause-goes_on
returns-clause-goes_on c = own_goes_on
