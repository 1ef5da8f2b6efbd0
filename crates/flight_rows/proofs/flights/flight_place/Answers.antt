use Rattle.push_model.specs.Cells.{is_flight}
use Rattle.push_model.proofs.KeyedLemmas.{place_found}
use Rattle.flight_rows.proofs.flights.flight_place.Goals as goal

pub returns : goal.returns
returns c = place_found (is_flight c.args.op) c.args.rows.now _ c.first_flight.ensures
