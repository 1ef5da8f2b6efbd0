use Rattle.std.proofs.Common.{◌≡◌, refl, sym, Some}
use Rattle.push_model.specs.FlightSteps.{flight}
use Rattle.user_cell.proofs.StoreLemmas.{store_is}
use Rattle.user_cell.proofs.cell.UserCell.store.Goals as goal

pub returns-in_ok-event-in-Store-clause-ok : goal.returns-in_ok-event-in-Store-clause-ok
returns-in_ok-event-in-Store-clause-ok c =
    let there : flight c.args.op c.args.self.now ≡ Some c.in-Some.flight.now = rw (← c.self.view_is) (sym c.in-Some.ensures) in
    let is = store_is c.args.moment c.args.op c.in-Some.flight.now c.self.inside.route c.self.inside.channels c.self.inside.rows.rows c.args.self.now c.self.invariant.0 (record { for_user = rw (← c.self.view_is) refl; found = there; stage = c.in-Store.is }) in
    rw (is, c.stored_reply.ensures, c.advance-advance.ensures.answer, c.advance-advance.ensures.list, c.in_ok-event-in-Store.ensures.event, c.in_ok-event-in-Store.ensures.rows, ← c.self.view_is) refl
