use Rattle.std.proofs.Common.{arith}
use Rattle.push_exchange.specs.Boards.{passes_view}
use Rattle.serve_run.specs.declared.halt.Halt.TheVariants.{NoMemory}
use Rattle.serve_run.proofs.CrewLemmas.{alike_itself, staffed_more, staffed_none}
use Rattle.serve_run.proofs.HouseLemmas.{empty_along}
use Rattle.serve_run.proofs.starts.start_pair.Goals as goal

pub returns-in_default-clause-staffed : goal.returns-in_default-clause-staffed
returns-in_default-clause-staffed g c =
    let v = passes_view c.args.passes.now in
    staffed_none g.S.Spawner.runs NoMemory 2 v v c.args.running.now.items (g.S.Spawner.started c.args.spawner.now) (omega arith) c.requires.beside (alike_itself v)

pub returns-clause-staffed : goal.returns-clause-staffed
returns-clause-staffed g c =
    staffed_more g.S.Spawner.runs c.start_endpoint-2.result 1 1 (passes_view c.args.passes.now) (passes_view c.start_endpoint.new.passes) (passes_view c.start_endpoint-2.new.passes)
    c.args.running.now.items c.start_endpoint.new.running.items c.start_endpoint-2.new.running.items
    (g.S.Spawner.started c.args.spawner.now) (g.S.Spawner.started c.start_endpoint.new.spawner) (g.S.Spawner.started c.start_endpoint-2.new.spawner)
    c.in_default-start_endpoint.ensures.staffed c.start_endpoint-2.ensures.staffed

pub start_endpoint-requires-2-clause-empty : goal.start_endpoint-requires-2-clause-empty
start_endpoint-requires-2-clause-empty g c =
    empty_along (passes_view c.args.passes.now) (passes_view c.start_endpoint.new.passes) c.in_default-start_endpoint.ensures.staffed.opening c.requires.empty
