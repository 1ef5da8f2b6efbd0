use Rattle.std.proofs.Common.{◌≤◌, length, refl, arith}
use Rattle.push_model.specs.Keyed.{FoundAt}
use Rattle.push_model.specs.Sessions.{is_attached, taken, held}
use Rattle.push_model.proofs.KeyedLemmas.{changed_at, first_at}
use Rattle.std.proofs.lemmas.List.{length-set}
use Rattle.user_cell.proofs.Held.{sum_by-set_le, taken_le}
use Rattle.user_cell.proofs.cell.UserCell.take_direct.Goals as goal

pub invariant_of-self-in-Some : goal.invariant_of-self-in-Some
invariant_of-self-in-Some c =
    let x = c.index_mut-session.result.now in
    let y = c.take_direct.new.self in
    let xs = c.self.inside.sessions.sessions.items in
    let inv = c.self.invariant in
    let less : length (held y) ≤ length (held x) = rw c.in_ok-page-in-Some.ensures.ok (taken_le c.args.moment x) in
    let sums = sum_by-set_le (λ z. length (held z)) xs c.in-Some.place x y c.in-Some.ensures.within c.index_mut-session.ensures.value less in
    let rows = inv.1.rows in
    let savers = inv.1.savers in
    (inv.0, record { rows = omega arith; savers = omega (arith, length-set xs c.in-Some.place y) })

pub returns-in_ok-page-in-Some-clause-ok : goal.returns-in_ok-page-in-Some-clause-ok
returns-in_ok-page-in-Some-clause-ok c =
    let x = c.index_mut-session.result.now in
    let at : FoundAt (is_attached c.args.s) c.self.inside.sessions.sessions.items c.in-Some.place = c.in-Some.ensures in
    let e = changed_at (is_attached c.args.s) (taken c.args.moment) _ _ x at c.index_mut-session.ensures.value in
    rw (← c.self.view_is, first_at _ _ _ x at c.index_mut-session.ensures.value, c.in_ok-page-in-Some.ensures.ok, c.in_ok-page-in-Some.ensures.page, e) refl
