use Rattle.std.proofs.Common.{refl, Ok, Err}
use Rattle.session_front.proofs.greets.greet.Goals as goal

pub returns-in-Ok : goal.returns-in-Ok
returns-in-Ok g c = record { at = c.in-Ok.ensures.made.0; told = c.in-Ok.ensures.made.1; begun = Ok c.in-Ok.s; hello = c.in-Ok.ensures.made.2; greets = (refl, c.say_hello-answer.ensures) }

pub returns-in-Err : goal.returns-in-Err
returns-in-Err g c = record { at = c.in-Err.ensures.made.0; told = c.in-Err.ensures.made.1; begun = Err c.in-Err.end; hello = c.in-Err.ensures.made.2; greets = (refl, refl, refl) }
