use Rattle.std.proofs.Common.{◌≡◌, sym, Some}
use Rattle.std.proofs.lemmas.Result.{IfOk-weaker}
use Rattle.push_model.specs.declared.step.Fetch.TheVariants.{Topic}
use Rattle.push_model.specs.Keyed.{FoundAt}
use Rattle.push_model.specs.Sessions.{is_attached}
use Rattle.push_model.specs.SessionSteps.{attached}
use Rattle.push_model.proofs.KeyedLemmas.{first_at}
use Rattle.user_cell.proofs.cell.UserCell.fetch_topic.Goals as goal

pub returns-in-Topic-clause-ok : goal.returns-in-Topic-clause-ok
returns-in-Topic-clause-ok c =
    let x = c.index.result.now in
    let place : FoundAt (is_attached c.args.s) c.args.self.now.sessions c.in-Some.place = rw (← c.self.view_is) c.in-Some.ensures in
    let there : attached c.args.s c.args.self.now ≡ Some x = rw (← c.self.view_is) (first_at _ _ _ x c.in-Some.ensures c.index.ensures) in
    let topic : x.fetch ≡ Topic = sym c.in-Topic.ensures in
    IfOk-weaker c.fetch_page.result _ _ (λ r h. rw (there, topic) (rw topic at (h c.args.s x (record { place = place; found = there })))) c.fetch_page.ensures.ok
