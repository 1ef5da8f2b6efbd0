-- What the small laws say of rows: a verdict is Stays exactly where a row has the very id.
use Rattle.std.proofs.Common.{◌≡◌, true, List, ◌∙◌, ap, sym, subst, arith}
use Rattle.std.specs.Prelude.{find, Contains, if◌then◌else◌}
use Rattle.std.specs.List.{list_any}
use Rattle.std.proofs.lemmas.Bool.Decides.{nat_tests}
use Rattle.push_model.specs.declared.ids.MsgId.{MsgId}
use Rattle.push_model.specs.declared.parts.Row.{Row}
use Rattle.push_model.specs.declared.standing.Verdict.TheVariants.{Stays}
use Rattle.push_model.specs.Names.{is_same_id}
use Rattle.push_model.specs.MessageValue.{MessageValue}
use Rattle.push_model.specs.Rows.{is_row, shares_topic, verdict, verdict_beside}
use Rattle.push_model.proofs.Members.{among, list_any-in}
use Rattle.push_model.proofs.CareSessions.{same_id}
use Rattle.push_model.proofs.Verdicts.{Means, means}
use Rattle.push_model.proofs.PinsPools.{contains, contained}

id_is : (a b : MsgId) → is_same_id a b ≡ true → a ≡ b
id_is a b h =
    let shard : a.shard ≡ b.shard = grind (arith, nat_tests) in
    let number : a.number ≡ b.number = grind (arith, nat_tests) in
    ap (λ n. let i : MsgId = record { shard = n; number = a.number } in i) shard ∙ ap (λ n. let i : MsgId = record { shard = b.shard; number = n } in i) number

pub stays_for : (m : MessageValue) (rows : List Row) → verdict m rows ≡ Stays → (r : Row) × Contains rows r × (r.message.id ≡ m.id)
stays_for m rows e =
    let known : list_any (is_row m.id) rows ≡ true = subst (Means m rows) e (means m rows) in
    let a = among (is_row m.id) rows known in
    (a.one, contains a.one rows a.member, id_is a.one.message.id m.id a.passes)

pub for_stays : (m : MessageValue) (rows : List Row) → (r : Row) × Contains rows r × (r.message.id ≡ m.id) → verdict m rows ≡ Stays
for_stays m rows h =
    let same : is_row m.id h.0 ≡ true = subst (λ i. is_same_id i m.id ≡ true) (sym h.2) (same_id m.id) in
    ap (λ b. if b then Stays else verdict_beside (find (shares_topic m) rows) m rows) (list_any-in (is_row m.id) h.0 rows (contained h.0 rows h.1) same)
