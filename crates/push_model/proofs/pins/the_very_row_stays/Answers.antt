use Rattle.push_model.proofs.PinsRows.{stays_for, for_stays}
use Rattle.push_model.proofs.pins.the_very_row_stays.Goals as goal

pub returns : goal.returns
returns c = λ m rows. (stays_for m rows, for_stays m rows)
