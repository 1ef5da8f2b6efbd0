-- How a page that was sent makes up a fetch.
use Rattle.std.proofs.Common.{◌≡◌, Bool, true, false, List, refl, ap, sym}
use Rattle.std.specs.Prelude.{◌||◌}
use Rattle.push_model.specs.declared.parts.Row.{Row}
use Rattle.push_model.specs.MessageValue.{MessageValue}
use Rattle.push_model.specs.Rows.{row_page, remains}
use Rattle.push_model.specs.Sessions.{Session, sent_more}
use Rattle.session_core.specs.Fetches.{sent_page, checked_where, IsFetched}

or_true : (a : Bool) → (a || true) ≡ true
or_true true = refl
or_true false = refl

or_false : (a : Bool) → (a || false) ≡ a
or_false true = refl
or_false false = refl

checked_by : (more : Bool) (x : Session) → checked_where more x ≡ record x { check = x.check || more }
checked_by true x = ap (λ b. record x { check = b }) (sym (or_true x.check))
checked_by false x = ap (λ b. record x { check = b }) (sym (or_false x.check))

-- the next page of those rows makes up the fetch
pub page_fetched : (topic : Bool) (rows : List Row) (page : List MessageValue) (x : Session) → IsFetched topic rows page x (sent_page page x)
page_fetched topic rows page x e =
    rw e (checked_by (remains topic (sent_more topic rows x) rows) (sent_page (row_page topic x.sent rows) x))
