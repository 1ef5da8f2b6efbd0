use Rattle.turn_board.proofs.PinLemmas.{one_added, not_quiet, not_invented}
use Rattle.turn_board.proofs.pins.one_change_is_added.Goals as goal

pub returns-clause-own : goal.returns-clause-own
returns-clause-own c = λ slot number change numbers old new signs h. one_added slot number change numbers old new signs h

pub returns-clause-others : goal.returns-clause-others
returns-clause-others c = λ slot number k change numbers old new other h. h.others k other

pub returns-clause-not_quiet : goal.returns-clause-not_quiet
returns-clause-not_quiet c = not_quiet

pub returns-clause-not_invented : goal.returns-clause-not_invented
returns-clause-not_invented c = not_invented
