use Rattle.push_model.specs.Histories.{history}
use Rattle.push_model.specs.Steps.{step}
use Rattle.push_model.specs.Worlds.{start}
use Rattle.push_laws.proofs.Headlines.{headline, history_legal}
use Rattle.push_laws.proofs.laws.steps_make_legal_histories.Goals as goal

pub returns-clause-legal : goal.returns-clause-legal
returns-clause-legal c = history_legal

pub returns-clause-headline : goal.returns-clause-headline
returns-clause-headline c = λ by shard next steps. headline shard next (history step by (start shard next) steps) (history_legal by (start shard next) steps)
