use Rattle.std.proofs.Common.{sym}
use Rattle.shard_core.specs.Owners.{flight_owner, has_flight}
use Rattle.shard_core.proofs.FlightOwners.{ended_sound}
use Rattle.shard_core.proofs.Owners.{unlost_sound}
use Rattle.shard_core.proofs.flight_owners.forget_ended.Goals as goal

pub returns-in-Some-clause-sound : goal.returns-in-Some-clause-sound
returns-in-Some-clause-sound c =
    ended_sound c.args.owners.now.entries c.forget_flight.new.owners.entries _ c.in-Some.op c.args.cells.now.entries (sym c.in-Some.ensures) c.forget_flight.ensures.rest

pub returns-in_default-clause-sound : goal.returns-in_default-clause-sound
returns-in_default-clause-sound c = unlost_sound has_flight (flight_owner c.args.owners.now.entries) _ c.args.cells.now.entries (sym c.in_default.ensures)
