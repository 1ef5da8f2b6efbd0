-- The exit status of a service.
use Rattle.std.specs.Prelude.{ℕ}
use Rattle.serve_run.specs.declared.halt.Halt.TheVariants.{Port, Loop, NoMemory as HaltNoMemory}
use Rattle.serve_run.specs.declared.ends.ServeEnd.{ServeEnd}
use Rattle.serve_run.specs.declared.ends.ServeEnd.TheVariants.{Done, Halted, ReadFault, WriteFault, NoMemory}

abbrev pub status_of : ServeEnd → ℕ
status_of Done = 0
status_of (Halted Port) = 3
status_of (Halted Loop) = 8
status_of (Halted HaltNoMemory) = 7
status_of (ReadFault f) = 5
status_of (WriteFault f) = 6
status_of NoMemory = 7
