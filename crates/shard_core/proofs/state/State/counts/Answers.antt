use Rattle.std.proofs.Common.{◌∙◌, ap}
use Rattle.push_model.specs.Worlds.{World}
use Rattle.shard_core.proofs.Counts.{counts_of-all}
use Rattle.shard_core.proofs.state.State.counts.Goals as goal

pub returns : goal.returns
returns c = c.count_cells.ensures ∙ counts_of-all c.args.self.now c.self.inside.cells.entries (ap (λ (w : World). w.cells) c.self.view_is)
