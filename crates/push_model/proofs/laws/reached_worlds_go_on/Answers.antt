use Rattle.push_model.proofs.Reached.{reached_start, reached_after, reached_cared, reached_reported}
use Rattle.push_model.proofs.laws.reached_worlds_go_on.Goals as goal

pub returns-clause-started : goal.returns-clause-started
returns-clause-started c = reached_start

pub returns-clause-onward : goal.returns-clause-onward
returns-clause-onward c = reached_after

pub returns-clause-cared : goal.returns-clause-cared
returns-clause-cared c = reached_cared

pub returns-clause-reported : goal.returns-clause-reported
returns-clause-reported c = reached_reported
