use Rattle.std.proofs.Common.{inl}
use Rattle.session_front.proofs.PumpLemmas.{first_hello, first_other}
use Rattle.session_front.proofs.greets.answer_first.Goals as goal

pub returns-in-Hello : goal.returns-in-Hello
returns-in-Hello g c = inl (first_hello _ _ _ _ _ _ _ _ _ c.in-Hello.uaid c.in-Hello.ensures c.greet.ensures)

pub returns-in-Other : goal.returns-in-Other
returns-in-Other g c = inl (first_other _ _ _ _ _ c.in-Other.ensures)
