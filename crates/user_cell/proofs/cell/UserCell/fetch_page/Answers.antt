use Rattle.std.proofs.Common.{◌≡◌, refl}
use Rattle.push_model.specs.Keyed.{FoundAt}
use Rattle.push_model.specs.Sessions.{is_attached, fetched}
use Rattle.push_model.proofs.KeyedLemmas.{changed_at, first_at}
use Rattle.session_core.specs.Fetches.{next_fetch}
use Rattle.user_cell.proofs.PartsLemmas.{rows_are}
use Rattle.user_cell.proofs.cell.UserCell.fetch_page.Goals as goal

pub returns-clause-ok : goal.returns-clause-ok
returns-clause-ok c = λ s x is.
    let y = c.index_mut-session.result.now in
    let rows = c.self.inside.rows.rows in
    let at : FoundAt (is_attached s) c.self.inside.sessions.sessions.items c.args.place = rw (← c.self.view_is) at is.place in
    let first = first_at _ _ _ y at c.index_mut-session.ensures.value in
    let found = rw (← c.self.view_is) at is.found in
    let same : x ≡ y = cc in
    let e = changed_at (is_attached s) (fetched c.args.topic (next_fetch y.fetch) rows) _ _ y at c.index_mut-session.ensures.value in
    rw (same, ← c.self.view_is, rows_are c.self.inside.route c.self.inside.channels rows c.self.invariant.0, c.in_ok-page.ensures.ok, c.in_ok-page.ensures.page, e) refl
