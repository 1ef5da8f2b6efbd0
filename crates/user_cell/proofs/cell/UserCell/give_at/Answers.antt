use Rattle.std.proofs.Common.{refl}
use Rattle.push_model.specs.Keyed.{FoundAt}
use Rattle.push_model.specs.Sessions.{is_attached_at, given}
use Rattle.push_model.proofs.KeyedLemmas.{changed_at}
use Rattle.user_cell.specs.Flights.{CanHold}
use Rattle.user_cell.proofs.Room.{given_at}
use Rattle.user_cell.proofs.cell.UserCell.give_at.Goals as goal

pub returns-clause-ok : goal.returns-clause-ok
returns-clause-ok c = λ n found.
    let x = c.index_mut-session.result.now in
    let items = c.self.inside.sessions.sessions.items in
    let there : FoundAt (is_attached_at n) items c.args.place = rw (← c.self.view_is) at found in
    let can : CanHold c.args.place items = rw (← c.self.view_is) at c.requires in
    let taken = given_at c.args.place items x c.give.new.self c.in_ok-give.field-0 c.args.message can c.index_mut-session.ensures.value c.in_ok-give.ensures.room c.in_ok-give.ensures.session in
    let e = changed_at (is_attached_at n) (given c.args.message) items c.args.place x there c.index_mut-session.ensures.value in
    rw (← c.self.view_is, c.in_ok-reserve.ensures.rows, taken, e) refl
