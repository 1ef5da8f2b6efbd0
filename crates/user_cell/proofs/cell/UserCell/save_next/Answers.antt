use Rattle.std.proofs.Common.{◌≡◌, refl, sym, ◌∙◌, ◌∷◌, Some, None}
use Rattle.push_model.specs.Rows.{verdict}
use Rattle.shutdown_save.specs.Savers.{held_by, rest}
use Rattle.user_cell.specs.Saving.{left_for}
use Rattle.user_cell.proofs.Room.{room_moved, room_left, room_held, room_saved}
use Rattle.user_cell.proofs.SaveLemmas.{left_is, saved_is, put_user, rows_bare, saved_bare}
use Rattle.user_cell.proofs.cell.UserCell.save_next.Goals as goal

pub invariant_of-self : goal.invariant_of-self
invariant_of-self c = (c.self.invariant.0, rw (c.advance.ensures.savers, c.advance.ensures.spare) (room_moved _ _ _ _ _ c.self.invariant.1))

pub invariant_of-self-in-Some-left_for : goal.invariant_of-self-in-Some-left_for
invariant_of-self-in-Some-left_for c = (c.self.invariant.0, rw (c.leave_first.ensures.savers, c.leave_first.ensures.spare) (room_left c.args.s _ _ _ c.self.invariant.1))

pub put_reserved-requires : goal.put_reserved-requires
put_reserved-requires c = room_held c.args.s _ _ _ _ c.self.invariant.1 c.in-Some.ensures.some

pub invariant_of-self-in-None : goal.invariant_of-self-in-None
invariant_of-self-in-None c =
    let none : left_for c.args.moment c.in-Some.message.now c.args.self.now.user ≡ None = sym c.left_for.ensures ∙ c.in-None.is in
    let here = rw (← c.self.view_is) at none in
    (saved_bare c.args.moment c.in-Some.message.now c.self.inside.route c.self.inside.channels c.self.inside.rows.rows _ here, rw (c.save_first-shared.ensures.savers, c.save_first-shared.ensures.spare) (room_saved c.args.s _ _ _ _ _ _ _ c.self.invariant.1 c.in-Some.ensures.some c.put_reserved.ensures.kept))

pub returns-in-Some-left_for : goal.returns-in-Some-left_for
returns-in-Some-left_for c =
    let m = c.in-Some.message.now in
    let held : held_by c.args.s c.args.self.now.savers ≡ m ∷ rest (held_by c.args.s c.args.self.now.savers) = rw (← c.self.view_is) c.in-Some.ensures.some in
    let why : left_for c.args.moment m c.args.self.now.user ≡ Some c.in-Some-left_for.reason = sym c.left_for.ensures ∙ c.in-Some-left_for.is in
    let is = left_is c.in-Some-left_for.reason c.args.moment m c.args.s (rest (held_by c.args.s c.args.self.now.savers)) c.args.self.now why in
    rw (held, is, c.leave_first.ensures.savers, ← c.message.view_is, ← c.self.view_is) refl

pub returns-in-None : goal.returns-in-None
returns-in-None c =
    let m = c.in-Some.message.now in
    let route = c.self.inside.route in
    let channels = c.self.inside.channels in
    let rows = c.self.inside.rows.rows in
    let held : held_by c.args.s c.args.self.now.savers ≡ m ∷ rest (held_by c.args.s c.args.self.now.savers) = rw (← c.self.view_is) c.in-Some.ensures.some in
    let none : left_for c.args.moment m c.args.self.now.user ≡ None = sym c.left_for.ensures ∙ c.in-None.is in
    let is = saved_is c.args.moment m c.args.s (rest (held_by c.args.s c.args.self.now.savers)) c.args.self.now none in
    let same : c.save_first-shared.result ≡ m = cc (c.in-Some.ensures.some, c.save_first-shared.ensures.message) in
    let put = put_user (verdict m rows) m route channels rows in
    rw (held, is, c.put_reserved.ensures.rows, c.save_first-shared.ensures.savers, same, put, ← c.message.view_is, ← c.self.view_is, rows_bare route channels rows c.self.invariant.0) refl
