use Rattle.std.proofs.Common.{◌≡◌, refl, sym, Some}
use Rattle.push_model.specs.FlightSteps.{flight}
use Rattle.user_cell.proofs.NudgeLemmas.{nudge_is}
use Rattle.user_cell.proofs.cell.UserCell.nudge.Goals as goal

pub returns-in-Nudge : goal.returns-in-Nudge
returns-in-Nudge c =
    let there : flight c.args.op c.args.self.now ≡ Some c.in-Some.flight.now = rw (← c.self.view_is) (sym c.in-Some.ensures) in
    rw (nudge_is c.in-Nudge.node c.in-Nudge.field-1 c.args.op c.args.self.now c.in-Some.flight.now there c.in-Nudge.is, ← c.tell-told.ensures.cell, ← c.self-in-Nudge.view_is, c.told_reply.ensures, c.advance.ensures.list, c.tell-told.ensures.found) refl
