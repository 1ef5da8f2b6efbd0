use Rattle.push_model.proofs.PinsAccounts.{any_legal, one_more}
use Rattle.push_model.proofs.pins.histories_are_legal.Goals as goal

pub returns-clause-legal : goal.returns-clause-legal
returns-clause-legal c = any_legal

pub returns-clause-one_more : goal.returns-clause-one_more
returns-clause-one_more c = one_more
