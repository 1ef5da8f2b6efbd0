use Rattle.push_exchange.specs.Boards.{passes_view}
use Rattle.serve_run.proofs.HouseLemmas.{fresh_is_empty}
use Rattle.serve_run.proofs.house.build.Goals as goal

pub returns-clause-empty : goal.returns-clause-empty
returns-clause-empty g c = fresh_is_empty (passes_view c.in_ok-exchange.passes) c.in_ok-exchange.ensures.fresh
