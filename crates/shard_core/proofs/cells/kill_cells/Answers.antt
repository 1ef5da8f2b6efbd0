use Rattle.std.proofs.Common.{rules}
use Rattle.std.proofs.lemmas.Map.Made.{map_same_pairs}
use Rattle.push_model.specs.NodeSteps.{killed}
use Rattle.shard_core.proofs.cells.kill_cells.Goals as goal

pub returns : goal.returns
returns c = map_same_pairs _ (killed c.args.node) _ (λ k v b w f' t. search rules) _ _ c.retain.ensures.filtered
