use Rattle.std.proofs.Common.{refl}
use Rattle.push_exchange.specs.Boards.{passes_view}
use Rattle.node_runner.specs.Goings.{on_by_none}
use Rattle.node_runner.proofs.job.serve_senders.Goals as goal

-- nothing was done with the passes
pub returns-in_default : goal.returns-in_default
returns-in_default g c = record { size = refl; beside = λ k. refl; honest = c.are_honest.ensures; goes_on = on_by_none (passes_view c.args.passes) }
