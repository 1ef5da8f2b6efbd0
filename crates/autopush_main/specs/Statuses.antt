-- The exit statuses.
use Rattle.std.specs.Prelude.{ℕ}
use Rattle.autopush_main.specs.declared.endings.End.TheVariants as ends
use Rattle.autopush_main.specs.declared.endings.Ended.{Ended}
use Rattle.autopush_main.specs.declared.endings.Ended.TheVariants.{WrongWords, NoWords, Replayed}

abbrev pub status_of : Ended → ℕ
status_of WrongWords = 2
status_of NoWords = 7
status_of (Replayed ends.Done) = 0
status_of (Replayed (ends.Refused r)) = 4
status_of (Replayed (ends.ReadFault f)) = 5
status_of (Replayed (ends.WriteFault f)) = 6
status_of (Replayed ends.NoMemory) = 7
