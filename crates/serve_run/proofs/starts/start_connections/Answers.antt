use Rattle.std.proofs.Common.{◌≡◌, ◌≤◌, ◌+◌, ℕ, Err, vec_len, refl, subst, ◌∙◌, arith}
use Rattle.push_exchange.specs.Boards.{passes_view}
use Rattle.serve_run.specs.Crews.{Staffed}
use Rattle.serve_run.proofs.CrewLemmas.{both, staffed_more, staffed_start, staffed_within}
use Rattle.serve_run.proofs.starts.start_connections.Goals as goal

pub loop-listener-init : goal.loop-listener-init
loop-listener-init g c =
    (0, omega arith, staffed_start g.S.Spawner.runs (passes_view c.args.passes.now) c.args.running.now.items (g.S.Spawner.started c.args.spawner.now) c.requires.beside, refl, refl, omega arith, c.requires.can)

pub returns-in-Err-clause-staffed : goal.returns-in-Err-clause-staffed
returns-in-Err-clause-staffed g c =
    let i = c.loop-listener.invariant in
    let n = i.1 in let m = c.in-Some.ensures.len in
    let within : i.0 + 1 ≤ (vec_len c.args.listeners) = omega arith in
    staffed_within g.S.Spawner.runs c.in-Err.halt (i.0 + 1) (vec_len c.args.listeners) (passes_view c.args.passes.now) (passes_view c.start_connection.new.passes)
    c.args.running.now.items c.start_connection.new.running.items (g.S.Spawner.started c.args.spawner.now) (g.S.Spawner.started c.start_connection.new.spawner) within
    (staffed_more g.S.Spawner.runs (Err c.in-Err.halt) i.0 1 (passes_view c.args.passes.now) (passes_view c.loop-listener.passes) (passes_view c.start_connection.new.passes)
    c.args.running.now.items c.loop-listener.running.items c.start_connection.new.running.items
    (g.S.Spawner.started c.args.spawner.now) (g.S.Spawner.started c.loop-listener.spawner) (g.S.Spawner.started c.start_connection.new.spawner)
    i.2 c.in-Err.ensures.staffed)

pub loop-listener-preserved : goal.loop-listener-preserved
loop-listener-preserved g c =
    let i = c.loop-listener.invariant in
    let n = i.1 in let m = c.in-Some.ensures.len in
    let count : i.0 + 1 ≡ (i.0 + 1) = omega arith in
    let runs = g.S.Spawner.runs in
    let more = both runs i.0 1 (passes_view c.args.passes.now) (passes_view c.loop-listener.passes) (passes_view c.start_connection.new.passes)
    c.args.running.now.items c.loop-listener.running.items c.start_connection.new.running.items
    (g.S.Spawner.started c.args.spawner.now) (g.S.Spawner.started c.loop-listener.spawner) (g.S.Spawner.started c.start_connection.new.spawner)
    i.2 c.in_default-start_connection.ensures.staffed in (
      i.0 + 1,
      omega arith,
      subst (λ (z : ℕ). Staffed runs z (passes_view c.args.passes.now) (passes_view c.start_connection.new.passes) c.args.running.now.items c.start_connection.new.running.items (g.S.Spawner.started c.args.spawner.now) (g.S.Spawner.started c.start_connection.new.spawner)) count more,
      c.start_connection.ensures.joined ∙ i.3,
      c.in_default-start_connection.ensures.cause ∙ i.4,
      (let k = i.5 in let l = c.start_connection.ensures.room in omega arith),
      c.start_connection.ensures.can,
    )
