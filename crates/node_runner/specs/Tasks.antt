-- What a loop's task needs of the passes.
use Rattle.push_model.specs.DeskViews.{DeskView}
use Rattle.http_front.specs.OpNumbers.{IsAbove}
use Rattle.node_runner.specs.declared.job.Task.{Task}
use Rattle.node_runner.specs.declared.job.Task.TheVariants.{Connection, Endpoint}

-- an endpoint begins flights from the number 0 on, so none of its own may be there
abbrev pub Suits : {R L C G : Type 0} → Task R L C G → DeskView → Type 0
Suits (Connection listener clock draw place) v = Unit {0}
Suits (Endpoint listener clock) v = IsAbove v 0
