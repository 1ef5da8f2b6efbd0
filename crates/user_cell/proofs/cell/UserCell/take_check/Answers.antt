use Rattle.std.proofs.Common.{◌≡◌, true, refl, sym}
use Rattle.push_model.specs.Keyed.{FoundAt}
use Rattle.push_model.specs.Sessions.{is_attached, fetching, is_due}
use Rattle.push_model.proofs.KeyedLemmas.{changed_at, first_at}
use Rattle.user_cell.proofs.cell.UserCell.take_check.Goals as goal

pub returns : goal.returns
returns c =
    let x = c.index_mut-session.result.now in
    let at : FoundAt (is_attached c.args.s) c.self.inside.sessions.sessions.items c.in-Some.place = c.in-Some.ensures in
    let due : is_due x ≡ true = sym c.if-not-take_check.ensures.due in
    let now = rw due at c.take_check.ensures.session in
    let e = changed_at (is_attached c.args.s) fetching _ _ x at c.index_mut-session.ensures.value in
    rw (← c.self.view_is, first_at _ _ _ x at c.index_mut-session.ensures.value, due, now, e) refl
