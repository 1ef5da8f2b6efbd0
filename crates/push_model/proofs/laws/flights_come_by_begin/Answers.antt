use Rattle.push_model.proofs.Unbegun.{still_absent, foreign_begin, absent_after}
use Rattle.push_model.proofs.laws.flights_come_by_begin.Goals as goal

pub returns-clause-one : goal.returns-clause-one
returns-clause-one c = still_absent

pub returns-clause-foreign : goal.returns-clause-foreign
returns-clause-foreign c = foreign_begin

pub returns-clause-all : goal.returns-clause-all
returns-clause-all c = absent_after
