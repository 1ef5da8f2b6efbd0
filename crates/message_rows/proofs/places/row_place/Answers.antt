use Rattle.push_model.specs.Rows.{is_row}
use Rattle.push_model.proofs.KeyedLemmas.{place_found}
use Rattle.message_rows.proofs.places.row_place.Goals as goal

pub returns : goal.returns
returns c = place_found (is_row c.args.id) c.args.rows.now _ c.first_row.ensures
