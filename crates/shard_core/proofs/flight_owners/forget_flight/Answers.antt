use Rattle.std.proofs.Common.{◌≡◌, not, None, ap, sym, ◌∙◌}
use Rattle.shard_core.specs.Owners.{has_flight, flight_owner, owned}
use Rattle.shard_core.proofs.FlightOwners.{flight_changes, flight_gone, flight_kept}
use Rattle.shard_core.proofs.Owners.{none_owned}
use Rattle.shard_core.proofs.Values.{copied_none, copied_there}
use Rattle.shard_core.proofs.flight_owners.forget_flight.Goals as goal

pub returns-then-is_none-clause-complete : goal.returns-then-is_none-clause-complete
returns-then-is_none-clause-complete c =
    let es = c.args.cells.now.entries in
    let rows = c.args.owners.now.entries in
    let none : owned (has_flight c.args.op) (flight_owner rows c.args.op) es ≡ None =
    sym c.flight_cell.ensures ∙ copied_none c.flight_cell.result (c.is_none.ensures ∙ ap not c.if-is_none.true) in
    flight_changes rows _ c.args.op None es c.remove.ensures.updates.0 (none_owned has_flight (flight_owner rows) c.args.op es c.requires none) c.requires

pub returns-then-is_none-clause-rest : goal.returns-then-is_none-clause-rest
returns-then-is_none-clause-rest c =
    let es = c.args.cells.now.entries in
    let rows = c.args.owners.now.entries in
    let none : owned (has_flight c.args.op) (flight_owner rows c.args.op) es ≡ None =
    sym c.flight_cell.ensures ∙ copied_none c.flight_cell.result (c.is_none.ensures ∙ ap not c.if-is_none.true) in
    flight_gone rows _ c.args.op es c.remove.ensures.updates.0 none

pub returns-else-is_none-clause-rest : goal.returns-else-is_none-clause-rest
returns-else-is_none-clause-rest c =
    flight_kept c.args.owners.now.entries c.args.op c.args.cells.now.entries
    (copied_there c.flight_cell.result _ c.flight_cell.ensures (c.is_none.ensures ∙ ap not c.if-is_none.false))
