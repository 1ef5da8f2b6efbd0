use Rattle.std.proofs.Common.{◌≡◌, sym, Some}
use Rattle.std.proofs.lemmas.Result.{IfOk-weaker}
use Rattle.push_model.specs.declared.step.Fetch.TheVariants.{Plain}
use Rattle.push_model.specs.Keyed.{FoundAt}
use Rattle.push_model.specs.Sessions.{is_attached}
use Rattle.push_model.specs.SessionSteps.{attached}
use Rattle.push_model.proofs.KeyedLemmas.{first_at}
use Rattle.user_cell.proofs.cell.UserCell.fetch_plain.Goals as goal

pub returns-in-Plain-clause-ok : goal.returns-in-Plain-clause-ok
returns-in-Plain-clause-ok c =
    let x = c.index.result.now in
    let place : FoundAt (is_attached c.args.s) c.args.self.now.sessions c.in-Some.place = rw (← c.self.view_is) c.in-Some.ensures in
    let there : attached c.args.s c.args.self.now ≡ Some x = rw (← c.self.view_is) (first_at _ _ _ x c.in-Some.ensures c.index.ensures) in
    let plain : x.fetch ≡ Plain = sym c.in-Plain.ensures in
    IfOk-weaker c.fetch_page.result _ _ (λ r h. rw (there, plain) (rw plain at (h c.args.s x (record { place = place; found = there })))) c.fetch_page.ensures.ok
