use Rattle.std.proofs.Common.{◌∙◌, ap, sym, arith}
use Rattle.push_model.specs.Rows.{new_row}
use Rattle.message_rows.specs.RowDues.{with_message, dues_of}
use Rattle.message_rows.proofs.DueRows.{dues_of_push}
use Rattle.message_rows.proofs.rows.Rows.append.Goals as goal

pub invariant_of-self : goal.invariant_of-self
invariant_of-self c =
    let kept = c.self.invariant.1 in
    let above = rw (← c.self.view_is) at c.requires in (
      omega (arith, c.in-Ok.ensures.len, c.in-Ok.ensures.capacity, c.self.invariant.0, above),
      record {
        entries =
            c.put_entry.ensures.entries
            ∙ ap (λ m. with_message m c.self.inside.dues.entries) c.message.ensures
            ∙ ap (with_message c.args.message) kept.entries
            ∙ sym (dues_of_push c.self.inside.rows.items (new_row c.args.message))
            ∙ ap dues_of (sym c.in-Ok.ensures.items);
        room = omega (arith, kept.room, c.put_entry.ensures.kept, above);
      },
    )
