use Rattle.push_model.proofs.PinsCells.{there_after}
use Rattle.push_model.proofs.pins.cells_are_there.Goals as goal

pub returns-clause-there : goal.returns-clause-there
returns-clause-there c = λ shard next entries l. (there_after shard next entries l).there

pub returns-clause-keyed : goal.returns-clause-keyed
returns-clause-keyed c = λ shard next entries l. (there_after shard next entries l).keyed

pub returns-clause-distinct : goal.returns-clause-distinct
returns-clause-distinct c = λ shard next entries l. (there_after shard next entries l).distinct
