use Rattle.std.proofs.Common.{rules}
use Rattle.push_model.specs.Rows.{is_row}
use Rattle.message_rows.proofs.rows.Rows.mark.Goals as goal

pub returns-clause-rows : goal.returns-clause-rows
returns-clause-rows c = c.mark_where.ensures.rows (is_row c.args.id) (λ r b h. search rules)
