use Rattle.std.proofs.Common.{◌≡◌, ◌++◌, Bool, take, drop}
use Rattle.std.specs.Prelude.{map}
use Rattle.std.specs.Fn.{FnReturnsAt}
use Rattle.push_model.specs.declared.parts.Row.{Row}
use Rattle.message_rows.specs.RowStock.{marked_where}
use Rattle.message_rows.proofs.marks.mark_where.Given as goal

abbrev pub invariant-loop-row : goal.invariant-loop-row
invariant-loop-row g l =
    record {
      rows :
          (p : Row → Bool) → ((r : Row) (b : Bool) → FnReturnsAt g.F.Fn l.test r b → b ≡ p r) →
          l.rows ≡ map (marked_where p) (take l.row-index l.fn.rows) ++ drop l.row-index l.fn.rows;
      messages : map (λ r. r.message) l.rows ≡ map (λ r. r.message) l.fn.rows;
    }
