-- What is said of how the command ended: nothing, or one line.
use Rattle.std.specs.Prelude.{ℕ, List, [], ◌∷◌, ◌++◌, codes}
use Rattle.autopush_main.specs.Messages.{end_message, message as main_message}
use Rattle.autopush_main.specs.declared.endings.End.TheVariants as ends
use Rattle.autopush_main.specs.declared.endings.Ended.TheVariants.{WrongWords as NoCommand}
use Rattle.serve_run.specs.declared.halt.Halt.TheVariants.{Port, Loop, NoMemory as HaltNoMemory}
use Rattle.serve_run.specs.declared.ends.ServeEnd.{ServeEnd}
use Rattle.serve_run.specs.declared.ends.ServeEnd.TheVariants.{Done, Halted, ReadFault, WriteFault, NoMemory}
use Rattle.autopush_serve.specs.declared.ended.Ended.{Ended}
use Rattle.autopush_serve.specs.declared.ended.Ended.TheVariants.{WrongWords, NoSeed, Served}

abbrev pub serve_message : ServeEnd → List ℕ
serve_message Done = []
serve_message (Halted Port) = codes "autopush: a port can't be listened at" ++ 10 ∷ []
serve_message (Halted Loop) = codes "autopush: a loop can't be started" ++ 10 ∷ []
serve_message (Halted HaltNoMemory) = end_message ends.NoMemory
serve_message (ReadFault f) = end_message (ends.ReadFault f)
serve_message (WriteFault f) = end_message (ends.WriteFault f)
serve_message NoMemory = end_message ends.NoMemory

-- words of no plan are answered with the usage of all commands
abbrev pub message : Ended → List ℕ
message WrongWords = main_message NoCommand
message NoSeed = codes "autopush: the machine gave no random seed" ++ 10 ∷ []
message (Served end) = serve_message end

-- nothing is said of it
abbrev pub IsQuiet : Ended → Type 0
IsQuiet (Served Done) = Unit {0}
IsQuiet _ = ⊥
