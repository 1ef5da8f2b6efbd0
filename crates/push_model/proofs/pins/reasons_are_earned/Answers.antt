use Rattle.push_model.proofs.pins.reasons_are_earned.Goals as goal
use Rattle.push_model.proofs.PinsReasons.{no_reason, found_under, replaced_shown}

pub returns-clause-none : goal.returns-clause-none
returns-clause-none c = no_reason

pub returns-clause-numbered : goal.returns-clause-numbered
returns-clause-numbered c = found_under

pub returns-clause-replaced : goal.returns-clause-replaced
returns-clause-replaced c = replaced_shown
