-- What is said of how a command ended: nothing, or one line.
use Rattle.std.specs.Prelude.{ℕ, List, [], ◌∷◌, ◌++◌, codes, decimal}
use Rattle.schedule_text.specs.Wrongs.{wrong_text}
use Rattle.autopush_main.specs.declared.endings.Fault.TheVariants.{Failed, Waited}
use Rattle.autopush_main.specs.declared.endings.Cause.{Cause}
use Rattle.autopush_main.specs.declared.endings.Cause.TheVariants.{TooMany, TooLong, NoStep}
use Rattle.autopush_main.specs.declared.endings.End.{End}
use Rattle.autopush_main.specs.declared.endings.End.TheVariants as ends
use Rattle.autopush_main.specs.declared.endings.Ended.{Ended}
use Rattle.autopush_main.specs.declared.endings.Ended.TheVariants.{WrongWords, NoWords, Replayed}

abbrev pub cause_text : Cause → List ℕ
cause_text TooMany = codes "a schedule has at most 1000000 lines"
cause_text TooLong = codes "it has more than 16384 bytes"
cause_text (NoStep wrong) = wrong_text wrong

abbrev pub end_message : End → List ℕ
end_message ends.Done = []
end_message (ends.Refused r) = codes "autopush: line " ++ (decimal r.line ++ (codes ": " ++ (cause_text r.cause ++ 10 ∷ [])))
end_message (ends.ReadFault Failed) = codes "autopush: the input failed" ++ 10 ∷ []
end_message (ends.ReadFault Waited) = codes "autopush: the input waited too long" ++ 10 ∷ []
end_message (ends.WriteFault Failed) = codes "autopush: the output failed" ++ 10 ∷ []
end_message (ends.WriteFault Waited) = codes "autopush: the output waited too long" ++ 10 ∷ []
end_message ends.NoMemory = codes "autopush: memory ran out" ++ 10 ∷ []

abbrev pub message : Ended → List ℕ
message WrongWords = codes "autopush: usage: autopush replay < SCHEDULE, or autopush serve CONNECTIONS ENDPOINTS CONNECTION_PORT ENDPOINT_PORT" ++ 10 ∷ []
message NoWords = codes "autopush: memory ran out" ++ 10 ∷ []
message (Replayed end) = end_message end

-- nothing is said of it
abbrev pub IsQuietEnd : End → Type 0
IsQuietEnd ends.Done = Unit {0}
IsQuietEnd _ = ⊥

abbrev pub IsQuiet : Ended → Type 0
IsQuiet (Replayed end) = IsQuietEnd end
IsQuiet _ = ⊥
