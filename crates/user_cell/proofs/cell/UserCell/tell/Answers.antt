use Rattle.std.proofs.Common.{refl}
use Rattle.push_model.specs.Keyed.{FoundAt}
use Rattle.push_model.specs.Sessions.{is_attached_at, checked}
use Rattle.push_model.proofs.KeyedLemmas.{changed_at, first_at}
use Rattle.user_cell.proofs.cell.UserCell.tell.Goals as goal

pub returns-clause-cell : goal.returns-clause-cell
returns-clause-cell c =
    let x = c.index_mut-session.result.now in
    let at : FoundAt (is_attached_at c.args.node) c.self.inside.sessions.sessions.items c.in-Some.place = c.in-Some.ensures in
    let e = changed_at (is_attached_at c.args.node) checked _ _ x at c.index_mut-session.ensures.value in
    rw (← c.self.view_is, first_at _ _ _ x at c.index_mut-session.ensures.value, c.unmark_for.ensures, c.at-at.ensures, c.set_check.ensures, e) refl
