-- The clauses of a service that didn't begin, and of its ports.
use Rattle.std.proofs.Common.{◌≡◌, ℕ, refl, arith}
use Rattle.node_loops.specs.Together.{raised}
use Rattle.serve_words.specs.Plans.{PlanValue}
use Rattle.serve_run.specs.Doors.{PortFailed}
use Rattle.serve_run.specs.Serves.{BlamesPorts, BlamesSpawner, IsNoPort, LoopsRun, PortsGiven}
use Rattle.serve_run.specs.declared.halt.Halt.{Halt}
use Rattle.serve_run.specs.declared.halt.Halt.TheVariants.{Port, Loop, NoMemory as HaltNoMemory}
use Rattle.serve_run.specs.declared.ends.ServeEnd.{ServeEnd}
use Rattle.serve_run.specs.declared.ends.ServeEnd.TheVariants.{Done, Halted, ReadFault, WriteFault, NoMemory}

pub port_blames : (halt : Halt) (before after : ℕ) → PortFailed halt before after → BlamesPorts (Halted halt) before after
port_blames Port before after failed = failed
port_blames Loop before after failed = absurd failed
port_blames HaltNoMemory before after failed = tt

pub port_spares : (halt : Halt) (before after s s' : ℕ) → PortFailed halt before after → BlamesSpawner (Halted halt) s s'
port_spares Port before after s s' failed = tt
port_spares Loop before after s s' failed = absurd failed
port_spares HaltNoMemory before after s s' failed = tt

pub none_ran : (halt : Halt) (n s j : ℕ) → LoopsRun (Halted halt) n s s j j
unfolding raised
none_ran halt n s j = (0, omega arith, (refl, refl))

pub no_port_blamed : (end : ServeEnd) (before after : ℕ) → IsNoPort end → BlamesPorts end before after
no_port_blamed Done before after none = tt
no_port_blamed (Halted Port) before after none = absurd none
no_port_blamed (Halted Loop) before after none = tt
no_port_blamed (Halted HaltNoMemory) before after none = tt
no_port_blamed (ReadFault f) before after none = tt
no_port_blamed (WriteFault f) before after none = tt
no_port_blamed NoMemory before after none = tt

pub ports_given : (end : ServeEnd) (p : PlanValue) (given given_now : ℕ) → given_now ≡ raised p.endpoints (raised p.connections given) → PortsGiven end p given given_now
ports_given Done p given given_now all = all
ports_given (Halted halt) p given given_now all = tt
ports_given (ReadFault f) p given given_now all = all
ports_given (WriteFault f) p given given_now all = all
ports_given NoMemory p given given_now all = all
