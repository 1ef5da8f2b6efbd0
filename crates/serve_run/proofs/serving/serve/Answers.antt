use Rattle.std.proofs.Common.{◌≡◌, ◌+◌, ℕ, vec_len, subst, arith}
use Rattle.serve_run.specs.Serves.{LoopsRun, loops_of}
use Rattle.serve_run.specs.declared.halt.Halt.TheVariants.{NoMemory}
use Rattle.serve_run.proofs.ServeLemmas.{no_port_blamed, none_ran, port_blames, port_spares, ports_given}
use Rattle.serve_run.proofs.serving.serve.Goals as goal

pub returns-in-Err-clause-loops : goal.returns-in-Err-clause-loops
returns-in-Err-clause-loops g c = none_ran c.in-Err.halt (loops_of c.args.plan.now) (g.S.Spawner.started c.args.spawner.now) (g.S.Spawner.joined c.args.spawner.now)

pub returns-in-Err-clause-ports : goal.returns-in-Err-clause-ports
returns-in-Err-clause-ports g c = port_blames c.in-Err.halt (g.N.Ports.faults c.args.ports.now) (g.N.Ports.faults c.open_doors.new.ports) c.in-Err.ensures.cause

pub returns-in-Err-clause-spawner : goal.returns-in-Err-clause-spawner
returns-in-Err-clause-spawner g c =
    port_spares c.in-Err.halt (g.N.Ports.faults c.args.ports.now) (g.N.Ports.faults c.open_doors.new.ports) (g.S.Spawner.faults c.args.spawner.now) (g.S.Spawner.faults c.args.spawner.now) c.in-Err.ensures.cause

pub returns-in_default-clause-loops : goal.returns-in_default-clause-loops
returns-in_default-clause-loops g c = none_ran NoMemory (loops_of c.args.plan.now) (g.S.Spawner.started c.args.spawner.now) (g.S.Spawner.joined c.args.spawner.now)

pub returns-clause-ports : goal.returns-clause-ports
returns-clause-ports g c = no_port_blamed c.run_house.result (g.N.Ports.faults c.args.ports.now) (g.N.Ports.faults c.open_doors.new.ports) c.run_house.ensures.no_port

pub returns-clause-listeners : goal.returns-clause-listeners
returns-clause-listeners g c = ports_given c.run_house.result c.args.plan.now (g.N.Ports.given c.args.ports.now) (g.N.Ports.given c.open_doors.new.ports) c.in-Ok.ensures.given

pub returns-clause-loops : goal.returns-clause-loops
returns-clause-loops g c =
    let a = c.in-Ok.ensures.connections in
    let b = c.in-Ok.ensures.endpoints in
    let all : vec_len c.in-Ok.doors.connections + (vec_len c.in-Ok.doors.endpoints + vec_len c.in-Ok.doors.endpoints) ≡ loops_of c.args.plan.now = omega arith in
    subst (λ (z : ℕ). LoopsRun c.run_house.result z (g.S.Spawner.started c.args.spawner.now) (g.S.Spawner.started c.run_house.new.spawner) (g.S.Spawner.joined c.args.spawner.now) (g.S.Spawner.joined c.run_house.new.spawner)) all c.run_house.ensures.loops
