use Rattle.std.proofs.Common.{◌≡◌, ◌+◌, ℕ, vec_len, length, ap, ◌∙◌, sym, subst, arith}
use Rattle.push_exchange.specs.Boards.{passes_view}
use Rattle.node_loops.specs.Together.{raised}
use Rattle.serve_run.specs.Serves.{BlamesSpawner, LoopsRun}
use Rattle.serve_run.proofs.HouseLemmas.{empty_along, over_along}
use Rattle.serve_run.proofs.WorkLemmas.{blames_so, loops_so, serves_so, worked_keeps}
use Rattle.serve_run.proofs.serving.run_house.Goals as goal

pub take_down-shards-requires-clause-over : goal.take_down-shards-requires-clause-over
take_down-shards-requires-clause-over g c =
    let v = passes_view c.args.house.passes in
    let w = passes_view c.work-worked.new.passes in
    let runs = g.S.Spawner.runs in
    let worked = c.work-worked.ensures.worked in
    let kept = worked_keeps c.work-worked.result runs (vec_len c.args.doors.connections + (vec_len c.args.doors.endpoints + vec_len c.args.doors.endpoints)) v w c.args.house.running.items c.work-worked.new.running.items (g.S.Spawner.started c.args.spawner.now) (g.S.Spawner.started c.work-worked.new.spawner)
    (g.I.Source.left c.args.input.now) (g.I.Source.left c.work-worked.new.input) (g.K.Sink.written c.args.output.now) (g.K.Sink.written c.work-worked.new.output) worked in
    over_along c.args.house.exchange v w kept.opening c.requires.over

pub take_down-shards-requires-clause-beside : goal.take_down-shards-requires-clause-beside
take_down-shards-requires-clause-beside g c =
    let v = passes_view c.args.house.passes in
    let w = passes_view c.work-worked.new.passes in
    let runs = g.S.Spawner.runs in
    let worked = c.work-worked.ensures.worked in
    let kept = worked_keeps c.work-worked.result runs (vec_len c.args.doors.connections + (vec_len c.args.doors.endpoints + vec_len c.args.doors.endpoints)) v w c.args.house.running.items c.work-worked.new.running.items (g.S.Spawner.started c.args.spawner.now) (g.S.Spawner.started c.work-worked.new.spawner)
    (g.I.Source.left c.args.input.now) (g.I.Source.left c.work-worked.new.input) (g.K.Sink.written c.args.output.now) (g.K.Sink.written c.work-worked.new.output) worked in
    kept.beside

pub take_down-shards-requires-clause-empty : goal.take_down-shards-requires-clause-empty
take_down-shards-requires-clause-empty g c =
    let v = passes_view c.args.house.passes in
    let w = passes_view c.work-worked.new.passes in
    let runs = g.S.Spawner.runs in
    let worked = c.work-worked.ensures.worked in
    let kept = worked_keeps c.work-worked.result runs (vec_len c.args.doors.connections + (vec_len c.args.doors.endpoints + vec_len c.args.doors.endpoints)) v w c.args.house.running.items c.work-worked.new.running.items (g.S.Spawner.started c.args.spawner.now) (g.S.Spawner.started c.work-worked.new.spawner)
    (g.I.Source.left c.args.input.now) (g.I.Source.left c.work-worked.new.input) (g.K.Sink.written c.args.output.now) (g.K.Sink.written c.work-worked.new.output) worked in
    empty_along v w kept.opening c.requires.empty

pub returns-clause-serves : goal.returns-clause-serves
returns-clause-serves g c =
    let v = passes_view c.args.house.passes in
    let w = passes_view c.work-worked.new.passes in
    let runs = g.S.Spawner.runs in
    let worked = c.work-worked.ensures.worked in
    serves_so c.end_so.result c.work-worked.result runs (vec_len c.args.doors.connections + (vec_len c.args.doors.endpoints + vec_len c.args.doors.endpoints)) v w c.args.house.running.items c.work-worked.new.running.items (g.S.Spawner.started c.args.spawner.now) (g.S.Spawner.started c.work-worked.new.spawner) c.take_down-shards.result
    (g.I.Source.left c.args.input.now) (g.I.Source.left c.work-worked.new.input) (g.K.Sink.written c.args.output.now) (g.K.Sink.written c.work-worked.new.output) (g.K.Sink.written c.end_so.new.output)
    c.requires.empty worked c.take_down-shards.ensures.sound c.end_so.ensures.ends

pub returns-clause-loops : goal.returns-clause-loops
returns-clause-loops g c =
    let v = passes_view c.args.house.passes in
    let w = passes_view c.work-worked.new.passes in
    let runs = g.S.Spawner.runs in
    let worked = c.work-worked.ensures.worked in
    let all : vec_len c.work-worked.new.running ≡ length c.work-worked.new.running.items = omega (arith, c.work-worked.new.running.ok.0) in
    let joined = c.take_down-shards.ensures.joined ∙ ap (raised (vec_len c.work-worked.new.running)) c.work-worked.ensures.joined in
    let counted = subst (λ (z : ℕ). g.S.Spawner.joined c.take_down-shards.new.spawner ≡ raised z (g.S.Spawner.joined c.args.spawner.now)) all joined in
    let none = ap (length {A = g.row.S-Running.Denot}) c.requires.none in
    subst (λ (z : ℕ). LoopsRun c.end_so.result (vec_len c.args.doors.connections + (vec_len c.args.doors.endpoints + vec_len c.args.doors.endpoints)) (g.S.Spawner.started c.args.spawner.now) z (g.S.Spawner.joined c.args.spawner.now) (g.S.Spawner.joined c.take_down-shards.new.spawner)) (sym c.take_down-shards.ensures.started)
    (loops_so c.end_so.result c.work-worked.result runs (vec_len c.args.doors.connections + (vec_len c.args.doors.endpoints + vec_len c.args.doors.endpoints)) v w c.args.house.running.items c.work-worked.new.running.items (g.S.Spawner.started c.args.spawner.now) (g.S.Spawner.started c.work-worked.new.spawner)
    (g.S.Spawner.joined c.args.spawner.now) (g.S.Spawner.joined c.take_down-shards.new.spawner) c.take_down-shards.result
    (g.I.Source.left c.args.input.now) (g.I.Source.left c.work-worked.new.input) (g.K.Sink.written c.args.output.now) (g.K.Sink.written c.work-worked.new.output) (g.K.Sink.written c.end_so.new.output)
    none worked counted c.end_so.ensures.ends)

pub returns-clause-spawner : goal.returns-clause-spawner
returns-clause-spawner g c =
    subst (λ (z : ℕ). BlamesSpawner c.end_so.result (g.S.Spawner.faults c.args.spawner.now) z) (sym c.take_down-shards.ensures.faults)
    (blames_so c.end_so.result c.work-worked.result c.take_down-shards.result (g.K.Sink.written c.work-worked.new.output) (g.K.Sink.written c.end_so.new.output)
    (g.S.Spawner.faults c.args.spawner.now) (g.S.Spawner.faults c.work-worked.new.spawner) c.work-worked.ensures.cause c.end_so.ensures.ends).0

pub returns-clause-no_port : goal.returns-clause-no_port
returns-clause-no_port g c =
    (blames_so c.end_so.result c.work-worked.result c.take_down-shards.result (g.K.Sink.written c.work-worked.new.output) (g.K.Sink.written c.end_so.new.output)
    (g.S.Spawner.faults c.args.spawner.now) (g.S.Spawner.faults c.work-worked.new.spawner) c.work-worked.ensures.cause c.end_so.ensures.ends).1
