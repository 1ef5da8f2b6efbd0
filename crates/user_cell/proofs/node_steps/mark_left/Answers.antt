use Rattle.std.proofs.Common.{rules}
use Rattle.push_model.specs.NodeSteps.{is_left_orphan}
use Rattle.user_cell.proofs.node_steps.mark_left.Goals as goal

pub returns-clause-rows : goal.returns-clause-rows
returns-clause-rows c = c.mark_where.ensures.rows (is_left_orphan c.args.node c.args.savers.now.savers) (λ r b h. search rules)
