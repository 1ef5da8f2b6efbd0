use Rattle.std.proofs.Common.{arith}
use Rattle.user_cell.proofs.Held.{joined_le}
use Rattle.user_cell.proofs.cell.UserCell.join.Goals as goal
use Rattle.user_cell.proofs.cell.UserCell.join.Goals.{in-Ok, in-Err-NoMemory}

pub invariant_of-self-2 : goal.invariant_of-self-2
invariant_of-self-2 c =
    let inv = c.self.invariant in
    let rows = inv.1.rows in
    let savers = inv.1.savers in
    let room = c.in_ok-reserve.ensures.room in
    let kept = c.in_ok-reserve.ensures.kept in
    let same = c.in_ok-reserve.ensures.savers in
    let len = c.len.ensures in
    elim c.match-attach.branch [
      | in-Ok w ↦
          let j = joined_le w.in-Ok.before c.args.s c.self.inside.sessions.sessions.items c.attach.new.self.sessions.items w.in-Ok.ensures.ok in
          let held = j.held in
          let longer = j.longer in
          (inv.0, record { rows = rw same (omega arith); savers = omega arith })
      | in-Err-NoMemory w ↦
          let e = (rw w.in-Err-NoMemory.field-0-is at w.in-Err-NoMemory.ensures.err).1 in
          (inv.0, record { rows = rw (same, e) rows; savers = rw e (omega arith) })
    ]
