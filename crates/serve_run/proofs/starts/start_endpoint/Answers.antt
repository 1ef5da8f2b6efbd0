use Rattle.std.proofs.Common.{List, sym, subst, arith}
use Rattle.push_exchange.specs.PassViews.{PassView}
use Rattle.push_exchange.specs.Boards.{IsBeside, passes_view}
use Rattle.serve_run.specs.declared.halt.Halt.TheVariants.{NoMemory}
use Rattle.serve_run.proofs.CrewLemmas.{alike_itself, same_alike, staffed_by, staffed_none}
use Rattle.serve_run.proofs.HouseLemmas.{empty_opens}
use Rattle.serve_run.proofs.starts.start_endpoint.Goals as goal

pub returns-in_default-clause-staffed : goal.returns-in_default-clause-staffed
returns-in_default-clause-staffed g c =
    let v = passes_view c.args.passes.now in
    staffed_none g.S.Spawner.runs NoMemory 1 v v c.args.running.now.items (g.S.Spawner.started c.args.spawner.now) (omega arith) c.requires.beside (alike_itself v)

pub returns-in_default-equip-clause-staffed : goal.returns-in_default-equip-clause-staffed
returns-in_default-equip-clause-staffed g c =
    let v = passes_view c.args.passes.now in
    let w = passes_view c.equip.new.passes in
    staffed_none g.S.Spawner.runs NoMemory 1 v w c.args.running.now.items (g.S.Spawner.started c.args.spawner.now) (omega arith) c.requires.beside (same_alike v w c.equip.ensures.stays.same)

pub endpoint-job-requires : goal.endpoint-job-requires
endpoint-job-requires g c =
    let v = passes_view c.args.passes.now in
    c.new_passes_began_no_flight.ensures.above v (passes_view c.in-Ok-equip.theirs) 0 c.in-Ok-equip.ensures.split (empty_opens v c.requires.empty)

pub returns-clause-staffed : goal.returns-clause-staffed
returns-clause-staffed g c =
    let v = passes_view c.args.passes.now in
    let w = passes_view c.equip.new.passes in
    let job : List PassView = c.endpoint-job.result in
    let beside = subst (λ (z : List PassView). IsBeside v (passes_view z)) (sym c.endpoint-job.ensures) c.in-Ok-equip.ensures.split.board in
    staffed_by g.S.Spawner.runs c.launch.result v w job c.args.running.now.items c.launch.new.running.items (g.S.Spawner.started c.args.spawner.now) (g.S.Spawner.started c.launch.new.spawner)
    c.requires.beside (same_alike v w c.equip.ensures.stays.same) beside c.launch.ensures.launched c.launch.ensures.started
