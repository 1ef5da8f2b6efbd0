use Rattle.std.proofs.Common.{None, []}
use Rattle.session_drive.proofs.ChatLemmas.{said_wanting}
use Rattle.session_drive.proofs.asks.show.Goals as goal

pub returns-in-Err-clause-asked : goal.returns-in-Err-clause-asked
returns-in-Err-clause-asked g c = record { reply = None; calls = c.in-Err.ensures.err; mail = c.in-Err.ensures.mail; fits = tt; ends = tt; said = said_wanting [] _ }
