use Rattle.std.proofs.Common.{None, []}
use Rattle.session_drive.proofs.ChatLemmas.{said_wanting}
use Rattle.session_drive.proofs.registers.try_register.Goals as goal

pub returns-in-Err : goal.returns-in-Err
returns-in-Err g c = record { reply = None; calls = c.in-Err.ensures.err; mail = c.in-Err.ensures.mail; ends = tt; said = said_wanting [] _ }
