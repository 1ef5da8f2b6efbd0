use Rattle.std.proofs.Common.{◌≡◌, ◌∙◌, ◌||◌, refl, sym, arith, rules}
use Rattle.push_model.specs.declared.parts.Row.{Row}
use Rattle.message_rows.specs.RowStock.{marked_where}
use Rattle.message_rows.proofs.RowLemmas.{marked_more, same_messages}
use Rattle.message_rows.proofs.marks.mark_where.Goals as goal

pub loop-row-preserved : goal.loop-row-preserved
loop-row-preserved g c =
    let i = c.loop-row.row-index in
    let rows = c.loop-row.rows in
    let x = c.row-item.result in
    let b = c.test-passes.result in
    let y : Row = record { message = x.message; orphan = x.orphan || b } in
    record {
      rows = λ p k.
          rw (← c.row-item.is, k x b (search rules)) (marked_more p c.args.rows.now rows i x (omega arith) (c.loop-row.invariant.rows p k) c.row-item.is);
      messages = rw (← c.row-item.is) (same_messages rows i x y (omega (arith, c.loop-row.auto.rows)) c.row-item.is refl ∙ c.loop-row.invariant.messages);
    }
