use Rattle.push_model.proofs.Reached.{reached_cared}
use Rattle.shard_core.proofs.Steps.{reached_after}
use Rattle.shard_core.proofs.shard.Shard.step.Goals as goal

pub invariant_of-self : goal.invariant_of-self
invariant_of-self c = reached_after c.step.result c.self.inside.state c.step.new.self c.args.asked c.self.invariant c.step.ensures.ok c.step.ensures.err

pub returns-clause-cared : goal.returns-clause-cared
returns-clause-cared c = reached_cared c.step.new.self (reached_after c.step.result c.self.inside.state c.step.new.self c.args.asked c.self.invariant c.step.ensures.ok c.step.ensures.err)
