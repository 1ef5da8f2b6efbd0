use Rattle.std.proofs.Common.{◌≡◌, ◌∙◌, ap}
use Rattle.push_model.specs.MessageValue.{MessageValue}
use Rattle.shutdown_save.proofs.CoveringLemmas.{covered_at}
use Rattle.shutdown_save.proofs.rows.SaverRows.covers.Goals as goal

pub returns : goal.returns
returns c = λ x e f.
    let same : c.behind-row.inside.id ≡ c.args.row.now.message.id = ap (λ (m : MessageValue). m.id) (c.behind-row.view_is ∙ c.message.ensures) in
    rw (c.covers_id.ensures, same, c.deref.ensures.value, ← c.self.view_is) (covered_at c.args.node c.args.at c.args.row.now c.self.inside.savers.items x e f)
