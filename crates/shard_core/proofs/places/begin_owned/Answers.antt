use Rattle.std.proofs.Common.{refl, sym, ◌∙◌}
use Rattle.std.specs.Prelude.{Some}
use Rattle.push_model.specs.Worlds.{cell_at}
use Rattle.shard_core.specs.Owners.{has_flight, flight_owner}
use Rattle.shard_core.proofs.FlightOwners.{begin_costs, begun_or_not, begun_sound, flight_changes}
use Rattle.shard_core.proofs.Owners.{none_has}
use Rattle.shard_core.proofs.Puts.{at_ok}
use Rattle.shard_core.proofs.places.begin_owned.Goals as goal

pub returns-then-is_err-clause-err : goal.returns-then-is_err-clause-err
returns-then-is_err-clause-err c = (refl, begin_costs c.args.op c.args.token c.args.message (cell_at c.args.cells.now.entries c.args.uaid))

pub forget_flight-requires : goal.forget_flight-requires
forget_flight-requires c =
    let es = c.args.cells.now.entries in
    let op = c.args.op in
    let rows = c.args.owners.now.entries in
    let after = c.insert.new.self.entries in
    let fine = sym c.is_err.ensures.value ∙ c.if-is_err.false in
    let updates = at_ok c.insert.result fine c.insert.ensures.updates in
    let noted = flight_changes rows after op (Some c.args.uaid.0) es updates.0 (none_has has_flight op es c.requires.free) c.requires.complete in
    begun_or_not c.begin_at-reply.result (flight_owner after) c.args.uaid op c.args.token c.args.message es c.begin_at-reply.new.cells.entries _ c.begin_at-reply.ensures.ok c.begin_at-reply.ensures.err updates.1 noted

pub returns-clause-sound : goal.returns-clause-sound
returns-clause-sound c =
    let es = c.args.cells.now.entries in
    let op = c.args.op in
    let fine = sym c.is_err.ensures.value ∙ c.if-is_err.false in
    let updates = at_ok c.insert.result fine c.insert.ensures.updates in
    begun_sound c.begin_at-reply.result c.args.owners.now.entries c.insert.new.self.entries c.forget_flight.new.owners.entries c.args.uaid op c.args.token c.args.message (Some c.args.uaid.0)
    es c.begin_at-reply.new.cells.entries _ c.begin_at-reply.ensures.ok c.begin_at-reply.ensures.err updates.0 c.forget_flight.ensures.rest
