use Rattle.std.proofs.Common.{◌≤◌, ◌+◌, vec_len, arith}
use Rattle.push_exchange.specs.Boards.{passes_view}
use Rattle.serve_run.proofs.CrewLemmas.{staffed_more, staffed_within}
use Rattle.serve_run.proofs.HouseLemmas.{empty_along}
use Rattle.serve_run.proofs.serving.start_all.Goals as goal

pub start_endpoints-requires-clause-empty : goal.start_endpoints-requires-clause-empty
start_endpoints-requires-clause-empty g c =
    empty_along (passes_view c.args.passes.now) (passes_view c.start_connections.new.passes) c.in_default.ensures.staffed.opening c.requires.empty

pub returns-in-Err-clause-staffed : goal.returns-in-Err-clause-staffed
returns-in-Err-clause-staffed g c =
    let first = vec_len c.args.doors.connections in
    let total = vec_len c.args.doors.connections + (vec_len c.args.doors.endpoints + vec_len c.args.doors.endpoints) in
    let within : first ≤ total = omega arith in
    staffed_within g.S.Spawner.runs c.in-Err.halt first total (passes_view c.args.passes.now) (passes_view c.start_connections.new.passes)
    c.args.running.now.items c.start_connections.new.running.items (g.S.Spawner.started c.args.spawner.now) (g.S.Spawner.started c.start_connections.new.spawner) within c.in-Err.ensures.staffed

pub returns-clause-staffed : goal.returns-clause-staffed
returns-clause-staffed g c =
    staffed_more g.S.Spawner.runs c.start_endpoints.result (vec_len c.args.doors.connections) (vec_len c.args.doors.endpoints + vec_len c.args.doors.endpoints)
    (passes_view c.args.passes.now) (passes_view c.start_connections.new.passes) (passes_view c.start_endpoints.new.passes)
    c.args.running.now.items c.start_connections.new.running.items c.start_endpoints.new.running.items
    (g.S.Spawner.started c.args.spawner.now) (g.S.Spawner.started c.start_connections.new.spawner) (g.S.Spawner.started c.start_endpoints.new.spawner)
    c.in_default.ensures.staffed c.start_endpoints.ensures.staffed
