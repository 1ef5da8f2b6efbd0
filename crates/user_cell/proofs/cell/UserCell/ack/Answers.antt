use Rattle.std.proofs.Common.{◌≤◌, length, refl, arith}
use Rattle.std.proofs.lemmas.List.{length-set}
use Rattle.push_model.specs.Keyed.{FoundAt}
use Rattle.push_model.specs.Sessions.{is_attached, acked_in, held}
use Rattle.push_model.proofs.KeyedLemmas.{changed_at, first_at}
use Rattle.user_cell.proofs.Held.{sum_by-set_le, acked_le}
use Rattle.user_cell.proofs.PartsLemmas.{bare_without_row, without_row_is}
use Rattle.user_cell.proofs.cell.UserCell.ack.Goals as goal
use Rattle.user_cell.proofs.cell.UserCell.ack.Goals.{in-Direct, in-Stored}

pub invariant_of-self-2 : goal.invariant_of-self-2
invariant_of-self-2 c =
    let x = c.index_mut-session.result.now in
    let y = c.ack.new.self in
    let xs = c.self.inside.sessions.sessions.items in
    let inv = c.self.invariant in
    let less : length (held y) ≤ length (held x) = rw c.ack.ensures.lists (acked_le c.args.chid c.args.id x) in
    let sums = sum_by-set_le (λ z. length (held z)) xs c.in-Some.place x y c.in-Some.ensures.within c.index_mut-session.ensures.value less in
    let rows = inv.1.rows in
    let savers = inv.1.savers in
    let kept = c.remove_id.ensures.kept in
    (rw c.remove_id.ensures.rows (bare_without_row c.args.id c.self.inside.route c.self.inside.channels c.self.inside.rows.rows inv.0), record { rows = omega arith; savers = omega (arith, length-set xs c.in-Some.place y) })

pub returns : goal.returns
returns c =
    let x = c.index_mut-session.result.now in
    let at : FoundAt (is_attached c.args.s) c.self.inside.sessions.sessions.items c.in-Some.place = c.in-Some.ensures in
    let there = first_at _ _ _ x at c.index_mut-session.ensures.value in
    let e = changed_at (is_attached c.args.s) (acked_in c.args.chid c.args.id) _ _ x at c.index_mut-session.ensures.value in
    let rows = without_row_is c.args.id c.self.inside.route c.self.inside.channels c.self.inside.rows.rows in
    elim c.match-ack.branch [
      | in-Direct w ↦ rw (← c.self.view_is, there, w.in-Direct.ensures.answer.0, c.ack.ensures.lists, e, rows, c.remove_id.ensures.rows, w.from-is) refl
      | in-Stored w ↦ rw (← c.self.view_is, there, w.in-Stored.ensures.answer.0, w.in-Stored.ensures.answer.1, c.ack.ensures.lists, e, rows, c.remove_id.ensures.rows, w.from-is) refl
    ]
