use Rattle.std.proofs.Common.{◌≡◌, ℕ, ◌+◌, ◌≤◌, true, false, ◌&&◌, not, List, ap, arith}
use Rattle.std.specs.Prelude.{nat_le, Contains}
use Rattle.std.specs.List.{list_any}
use Rattle.std.proofs.lemmas.Bool.Decides.{nat_tests}
use Rattle.push_model.specs.Sessions.{Session}
use Rattle.push_model.proofs.Members.{among}
use Rattle.push_model.proofs.Marks.{both}
use Rattle.push_model.proofs.PinsPools.{contains, not_so, not_true}
use Rattle.push_model.proofs.pins.idleness_is_exact.Goals as goal

none_attached : (xs : List Session) → ((x : Session) → Contains xs x → x.displaced ≡ true) → list_any (λ (x : Session). not x.displaced) xs ≡ false
none_attached xs f =
    not_so (list_any (λ (x : Session). not x.displaced) xs)
    (λ h. let a = among (λ (x : Session). not x.displaced) xs h in not_true a.one.displaced (f a.one (contains a.one xs a.member)) a.passes)

at_most : (a b : ℕ) → a ≤ b → nat_le a b ≡ true
at_most a b h = grind (arith, nat_tests)

idle_since : (moment least : ℕ) (xs : List Session) → ((x : Session) → Contains xs x → x.displaced ≡ true) → least ≤ moment →
    (not (list_any (λ (x : Session). not x.displaced) xs) && nat_le least moment) ≡ true
idle_since moment least xs f h = both (not (list_any (λ (x : Session). not x.displaced) xs)) (nat_le least moment) (ap not (none_attached xs f)) (at_most least moment h)

pub returns-clause-since : goal.returns-clause-since
returns-clause-since c = λ moment u xs. idle_since moment (u.route.touched + 5184000) xs
