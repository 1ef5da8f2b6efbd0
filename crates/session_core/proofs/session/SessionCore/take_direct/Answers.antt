use Rattle.std.proofs.Common.{◌≡◌, true, length, take, refl, rules}
use Rattle.std.specs.Prelude.{is_ok}
use Rattle.push_model.specs.Messages.{unexpired}
use Rattle.session_core.proofs.PageLemmas.{rest_behind}
use Rattle.session_core.proofs.session.SessionCore.take_direct.Goals as goal

pub returns-clause-ok : goal.returns-clause-ok
returns-clause-ok c =
    let waiting = unexpired c.args.now c.self.inside.inbox.items in
    let shown : c.in_ok-shown.shown.items ≡ take 10 waiting = cc (c.in_ok-shown.ensures, c.in_ok-page.ensures) in
    let counted : c.len-count.result ≡ length c.in_ok-shown.shown.items = cc (c.in_ok-shown.shown.ok.0) in
    let joined : is_ok c.append.result ≡ true = search rules in
    rw (c.drop_front.ensures.items, c.drop_expired.ensures.items, c.append.ensures.items, ← c.self.view_is, joined, rest_behind waiting c.in_ok-shown.shown.items c.len-count.result shown counted, shown) refl
