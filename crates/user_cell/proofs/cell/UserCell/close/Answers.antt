use Rattle.std.proofs.Common.{◌≡◌, length, refl, ◌++◌}
use Rattle.push_model.specs.Sessions.{held, is_session}
use Rattle.push_model.proofs.Members.{find_passes}
use Rattle.user_cell.proofs.HeldActors.{none_gone}
use Rattle.user_cell.proofs.Room.{room_closed}
use Rattle.user_cell.proofs.SaveLemmas.{saver_of}
use Rattle.user_cell.proofs.cell.UserCell.close.Goals as goal

pub invariant_of-self : goal.invariant_of-self
invariant_of-self c =
    let none = none_gone (is_session c.args.s) c.self.inside.sessions.sessions.items c.in_default.ensures.none in
    (c.self.invariant.0, rw (c.leave.ensures.rest, none) c.self.invariant.1)

pub returns-in_default : goal.returns-in_default
returns-in_default c =
    let none = none_gone (is_session c.args.s) c.self.inside.sessions.sessions.items c.in_default.ensures.none in
    rw (← c.self.view_is, c.closed_reply.ensures, c.leave.ensures.rest, none, c.in_default.ensures.none) refl

pub invariant_of-self-2 : goal.invariant_of-self-2
invariant_of-self-2 c =
    let p = c.into_parts-direct.result in
    let same : length (p.direct.items ++ p.inbox.items) ≡ length (held c.in-Some.session) = rw (c.into_parts-direct.ensures.direct, c.into_parts-direct.ensures.inbox) refl in
    (c.touch.ensures.bare _ _ c.self.invariant.0, rw (c.leave.ensures.rest, c.put.ensures.savers) (room_closed c.args.s c.in-Some.session _ _ _ _ _ _ c.self.invariant.1 c.in-Some.ensures.some same c.put.ensures.spare))

pub returns : goal.returns
returns c =
    let p = c.into_parts-direct.result in
    let x = c.in-Some.session in
    let one = find_passes (is_session c.args.s) x c.self.inside.sessions.sessions.items c.in-Some.ensures.some in
    let saver = saver_of c.args.s x p.direct.items p.inbox.items one c.into_parts-direct.ensures.direct c.into_parts-direct.ensures.inbox in
    rw (← c.self.view_is, c.in-Some.ensures.some, c.touch.ensures.user c.self.inside.channels c.self.inside.rows.rows, c.leave.ensures.rest, c.put.ensures.savers, saver, c.held-held.ensures) refl
