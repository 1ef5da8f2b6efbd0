-- With which code a client's chat is closed.
use Rattle.std.specs.Prelude.{ℕ, Option, Some, None}
use Rattle.session_drive.specs.declared.ends.SessionEnd.{SessionEnd}
use Rattle.session_drive.specs.declared.ends.SessionEnd.TheVariants.{Stale, Outrun, Down, UaidSpent, TokenSpent, Ended, Refused, Left, ChatFault, NoMemory}

abbrev pub close_code : SessionEnd → Option ℕ
close_code (Stale at) = Some 4409
close_code (Outrun at) = Some 4409
close_code Down = Some 4503
close_code UaidSpent = Some 4507
close_code TokenSpent = Some 4507
close_code Ended = Some 4410
close_code Refused = Some 4400
close_code Left = None
close_code ChatFault = None
close_code NoMemory = Some 4500
