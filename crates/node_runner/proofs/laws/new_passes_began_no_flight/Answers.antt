use Rattle.node_runner.proofs.Openings.{fresh_opens, later_opens, split_above, split_opens}
use Rattle.node_runner.proofs.laws.new_passes_began_no_flight.Goals as goal

pub returns-clause-fresh : goal.returns-clause-fresh
returns-clause-fresh c = fresh_opens

pub returns-clause-later : goal.returns-clause-later
returns-clause-later c = later_opens

pub returns-clause-split : goal.returns-clause-split
returns-clause-split c = split_opens

pub returns-clause-above : goal.returns-clause-above
returns-clause-above c = split_above
