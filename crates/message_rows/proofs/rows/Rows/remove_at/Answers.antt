use Rattle.std.proofs.Common.{◌∙◌, ap, sym, arith}
use Rattle.message_rows.specs.RowDues.{without_message, dues_of}
use Rattle.message_rows.proofs.DueRows.{dues_of-remove}
use Rattle.message_rows.proofs.rows.Rows.remove_at.Goals as goal

pub invariant_of-self : goal.invariant_of-self
invariant_of-self c =
    let kept = c.self.invariant.1 in
    let row = c.remove-row.result in
    let within = rw (← c.self.view_is) at c.requires in (
      omega (arith, c.remove-row.ensures.len, c.remove-row.ensures.capacity, c.self.invariant.0),
      record {
        entries =
            c.remove_entry.ensures.entries
            ∙ ap (λ m. without_message m c.self.inside.dues.entries) c.message.ensures
            ∙ ap (without_message row.message) kept.entries
            ∙ dues_of-remove c.self.inside.rows.items c.args.place row within c.remove-row.ensures.value
            ∙ ap dues_of (sym c.remove-row.ensures.items);
        room = omega (arith, kept.room, c.remove_entry.ensures.kept);
      },
    )
