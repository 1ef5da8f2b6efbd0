use Rattle.std.proofs.Common.{refl}
use Rattle.push_model.specs.Keyed.{FoundAt}
use Rattle.push_model.specs.Cells.{is_flight}
use Rattle.push_model.specs.Advances.{at_stage}
use Rattle.push_model.proofs.KeyedLemmas.{changed_at}
use Rattle.flight_rows.proofs.flights.Flights.go_on.Goals as goal

pub returns-in-Moved : goal.returns-in-Moved
returns-in-Moved c = λ op at.
    let there : FoundAt (is_flight op) c.self.inside.rows.items c.args.place = rw (← c.self.view_is) at at in
    let e = changed_at (is_flight op) (at_stage c.in-Moved.stage) _ _ c.index_mut-row.result.now there c.index_mut-row.ensures.value in
    rw (c.in-Moved.is, ← c.self.view_is, e) refl
