use Rattle.std.proofs.Common.{ℕ, List, refl, sym, subst}
use Rattle.push_model.specs.Cells.{Cell}
use Rattle.push_model.specs.Steps.{action}
use Rattle.shard_core.specs.Dues.{NoneDueIn}
use Rattle.shard_core.specs.Owners.{flight_owner}
use Rattle.shard_core.proofs.Puts.{steps_at, costs_at}
use Rattle.shard_core.proofs.DueCells.{due_put}
use Rattle.shard_core.proofs.FlightOwners.{flights_step, holders_step}
use Rattle.shard_core.proofs.Values.{on_err}
use Rattle.shard_core.proofs.state.State.on_cell.Goals as goal

pub returns-in_err-reply-clause-err : goal.returns-in_err-reply-clause-err
returns-in_err-reply-clause-err c =
    let s = c.self.inside in
    let err = c.in_err-reply.ensures.err in
    on_err c.from_residual.result
    (rw err.0 c.self.view_is, err.1, rw (← c.self.view_is) (costs_at (action s.clock c.args.asked.now) _ c.args.uaid err.2))

pub returns-clause-ok : goal.returns-clause-ok
returns-clause-ok c =
    let s = c.self.inside in
    rw (← c.self.view_is)
    (steps_at (action s.clock c.args.asked.now) _ _ c.args.uaid c.step_owned.new.cells.entries c.in_ok-reply.reply c.in_ok-reply.ensures.ok refl)

pub invariant_of-self-2 : goal.invariant_of-self-2
invariant_of-self-2 c =
    let s = c.self.inside in
    let step = c.in_ok-reply.ensures.ok in
    let fs : List (ℕ × Cell) = c.step_owned.new.cells.entries in (
      c.self.invariant.0,
      subst (λ t. NoneDueIn t fs) (sym c.earlier-self-inside.ensures) (due_put c.args.uaid step.cell s.soonest c.soonest_at.result s.cells.entries fs step.puts c.self.invariant.1 c.soonest_at.ensures),
      c.forget_ended.ensures.complete,
      c.step_owned.ensures.complete,
      c.forget_ended.ensures.sound (holders_step (flight_owner s.flights.entries) s.clock c.args.asked.now c.args.uaid s.cells.entries fs c.in_ok-reply.reply step c.self.invariant.4),
    )

pub forget_ended-requires : goal.forget_ended-requires
forget_ended-requires c =
    let s = c.self.inside in
    flights_step (flight_owner s.flights.entries) s.clock c.args.asked.now c.args.uaid s.cells.entries c.step_owned.new.cells.entries c.in_ok-reply.reply c.in_ok-reply.ensures.ok c.self.invariant.2
