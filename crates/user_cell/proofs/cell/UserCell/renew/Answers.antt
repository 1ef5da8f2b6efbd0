use Rattle.std.proofs.Common.{refl}
use Rattle.push_model.specs.Keyed.{FoundAt}
use Rattle.push_model.specs.Sessions.{is_attached, checked}
use Rattle.push_model.proofs.KeyedLemmas.{changed_at, first_at}
use Rattle.user_cell.proofs.cell.UserCell.renew.Goals as goal

pub returns : goal.returns
returns c =
    let x = c.index_mut.result.now in
    let at : FoundAt (is_attached c.args.s) c.self.inside.sessions.sessions.items c.in-Some.place = c.in-Some.ensures in
    let there = first_at _ _ _ x at c.index_mut.ensures.value in
    let e = changed_at (is_attached c.args.s) checked _ _ x at c.index_mut.ensures.value in
    let now = rw (← c.if-not-renew_if.ensures.value) at c.if-not-renew_if.ensures.row in
    rw (← c.self.view_is, c.in-Some-route.is, there, c.set_check.ensures, e, c.unmark_all.ensures.rows, ← c.s.view_is, ← c.if-not-renew_if.ensures.value, now) refl
