use Rattle.std.proofs.Common.{not, length, arith}
use Rattle.std.specs.Prelude.{◌==◌}
use Rattle.push_model.specs.NodeSteps.{orphaned}
use Rattle.push_model.specs.Sessions.{held}
use Rattle.user_cell.proofs.Held.{length-filter_le, sum_by-filter_le}
use Rattle.user_cell.proofs.PartsLemmas.{bare_map}
use Rattle.user_cell.proofs.cell.UserCell.kill.Goals as goal

pub invariant_of-self : goal.invariant_of-self
invariant_of-self c =
    let n = c.args.node in
    let xs = c.self.inside.sessions.sessions.items in
    let vs = c.self.inside.savers.savers in
    let inv = c.self.invariant in
    let rows = inv.1.rows in
    let savers = inv.1.savers in
    let kept = c.mark_left.ensures.kept in
    let spare = c.end_on-2.ensures.spare in
    let shown = sum_by-filter_le (λ x. length (held x)) (λ x. not (x.node == n)) xs in
    let closed = sum_by-filter_le (λ v. length v.held) (λ v. not (v.node == n)) vs in (
      rw c.mark_left.ensures.rows (bare_map (orphaned n vs) c.self.inside.route c.self.inside.channels c.self.inside.rows.rows inv.0),
      record {
        rows = rw (c.end_on.ensures.sessions, c.end_on-2.ensures.savers) (omega arith);
        savers = rw c.end_on.ensures.sessions (omega (arith, length-filter_le (λ x. not (x.node == n)) xs));
      },
    )
