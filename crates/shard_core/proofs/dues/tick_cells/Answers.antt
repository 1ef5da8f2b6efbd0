use Rattle.std.proofs.Common.{rules}
use Rattle.std.proofs.lemmas.Map.Made.{map_same_pairs}
use Rattle.push_model.specs.ClockSteps.{ticked}
use Rattle.shard_core.proofs.dues.tick_cells.Goals as goal

pub returns : goal.returns
returns c = map_same_pairs _ (ticked c.args.now) _ (λ k v b w f' t. search rules) _ _ c.retain.ensures.filtered
