use Rattle.std.proofs.Common.{◌∙◌, ap, sym}
use Rattle.message_rows.specs.RowDues.{dues_of}
use Rattle.message_rows.proofs.DueRows.{dues_of-same, length-same, put_again}
use Rattle.message_rows.proofs.rows.Rows.mark_where.Goals as goal

pub invariant_of-self : goal.invariant_of-self
invariant_of-self g c =
    let rows = c.self.inside.rows.items in
    let marked = c.mark_where.new.rows in
    let same = rw c.deref_mut.ensures.value at c.mark_where.ensures.messages in
    let long = rw c.deref_mut.ensures.value at c.deref_mut.ensures.len in (
      c.self.invariant.0,
      record {
        entries =
            c.self.invariant.1.entries
            ∙ sym (dues_of-same rows marked same)
            ∙ ap dues_of (sym (put_again c.self.inside.rows.len rows marked (length-same rows marked same) long));
        room = c.self.invariant.1.room;
      },
    )
