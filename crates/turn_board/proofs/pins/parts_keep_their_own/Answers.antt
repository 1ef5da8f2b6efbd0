use Rattle.push_model.specs.DeskViews.{mail_by}
use Rattle.turn_board.specs.Views.{entry_by}
use Rattle.turn_board.proofs.PinLemmas.{own_grown}
use Rattle.turn_board.proofs.pins.parts_keep_their_own.Goals as goal

pub returns-clause-own : goal.returns-clause-own
returns-clause-own g c = own_grown entry_by _ _ _ c.requires.0

pub returns-clause-mail : goal.returns-clause-mail
returns-clause-mail g c = λ slot. own_grown mail_by _ _ _ (c.requires.1 slot)
