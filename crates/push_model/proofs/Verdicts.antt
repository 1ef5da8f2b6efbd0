-- What a verdict says of the rows.
use Rattle.std.proofs.Common.{◌≡◌, Bool, true, false, not, List, refl, ◌∙◌, sym, subst}
use Rattle.std.specs.Prelude.{find, length, nat_lt, nat_le, Option, Some, None, if◌then◌else◌}
use Rattle.std.specs.List.{list_any}
use Rattle.push_model.specs.declared.parts.Row.{Row}
use Rattle.push_model.specs.declared.standing.Stands.TheVariants.{Same, Apart, New, Kept}
use Rattle.push_model.specs.declared.standing.Verdict.{Verdict}
use Rattle.push_model.specs.declared.standing.Verdict.TheVariants.{Stays, Older, Full, Joins}
use Rattle.push_model.specs.MessageValue.{MessageValue}
use Rattle.push_model.specs.Rows.{is_row, is_of_topic, shares_topic, verdict, verdict_by, verdict_beside}
use Rattle.push_model.proofs.Members.{In, true_not_false, find_in, find_passes, list_any-in}

-- the row of its topic that is found has a greater id
pub record Newer (m : MessageValue) (rows : List Row) : Type 0 where
  pub row : Row
  pub found : find (shares_topic m) rows ≡ Some row
  pub greater : nat_lt row.message.id.number m.id.number ≡ false

-- no row is the very message, and what else is known
pub record Beside (m : MessageValue) (rows : List Row) (X : Type 0) : Type 0 where
  pub other : list_any (is_row m.id) rows ≡ false
  pub more : X

-- by the verdict
abbrev pub Means : MessageValue → List Row → Verdict → Type 0
Means m rows Stays = list_any (is_row m.id) rows ≡ true
Means m rows Older = Beside m rows (Newer m rows)
Means m rows Full = Beside m rows (find (shares_topic m) rows ≡ None)
Means m rows Joins = Beside m rows ((r : Row) → find (shares_topic m) rows ≡ Some r → nat_lt r.message.id.number m.id.number ≡ true)

stood : (m : MessageValue) (r : Row) (rows : List Row) (a b c : Bool) → list_any (is_row m.id) rows ≡ false → find (shares_topic m) rows ≡ Some r → a ≡ false → b ≡ true →
    nat_lt r.message.id.number m.id.number ≡ c → Means m rows (verdict_by (if a then Same else if not b then Apart else if c then New else Kept))
stood m r rows true b c d e f g h = absurd (true_not_false f)
stood m r rows false false c d e f g h = absurd (true_not_false (sym g))
stood m r rows false true true d e f g h =
    record { other = d; more = λ y s. let same : r ≡ y = cc in subst (λ z. nat_lt z.message.id.number m.id.number ≡ true) same h }
stood m r rows false true false d e f g h = record { other = d; more = record { row = r; found = e; greater = h } }

other_row : (m : MessageValue) (r : Row) (rows : List Row) (b : Bool) → is_row m.id r ≡ b → In r rows → list_any (is_row m.id) rows ≡ false → b ≡ false
other_row m r rows true e i d = absurd (true_not_false (sym (list_any-in (is_row m.id) r rows i e) ∙ d))
other_row m r rows false e i d = refl

full_or : (m : MessageValue) (rows : List Row) (b : Bool) → list_any (is_row m.id) rows ≡ false → find (shares_topic m) rows ≡ None → Means m rows (if b then Full else Joins)
full_or m rows true d e = record { other = d; more = e }
full_or m rows false d e = record { other = d; more = λ r s. cc }

beside : (m : MessageValue) (rows : List Row) (o : Option Row) → list_any (is_row m.id) rows ≡ false → find (shares_topic m) rows ≡ o → Means m rows (verdict_beside o m rows)
beside m rows None d e = full_or m rows (nat_le 1000 (length rows)) d e
beside m rows (Some r) d e =
    stood m r rows (is_row m.id r) (is_of_topic m r.message) (nat_lt r.message.id.number m.id.number) d e
    (other_row m r rows (is_row m.id r) refl (find_in (shares_topic m) r rows e) d) (find_passes (shares_topic m) r rows e) refl

by_very : (m : MessageValue) (rows : List Row) (b : Bool) → list_any (is_row m.id) rows ≡ b → Means m rows (if b then Stays else verdict_beside (find (shares_topic m) rows) m rows)
by_very m rows true d = d
by_very m rows false d = beside m rows (find (shares_topic m) rows) d refl

-- it means that
pub means : (m : MessageValue) (rows : List Row) → Means m rows (verdict m rows)
means m rows = by_very m rows (list_any (is_row m.id) rows) refl
