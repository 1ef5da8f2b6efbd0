use Rattle.std.proofs.Common.{arith}
use Rattle.push_model.specs.Histories.{entry}
use Rattle.turn_board.proofs.Adding.{adds}
use Rattle.turn_board.proofs.entries.add_as.Goals as goal

pub fetch_add-requires : goal.fetch_add-requires
fetch_add-requires g c =
    let q = c.requires in
    (q.table.0, (let w = q.table.1 in omega arith), rw q.entry (adds _ _ _ _ _ q.serves.0 _ q.reply.0 (entry c.args.by c.args.step.now.value c.args.reply.now) q.serves.1 q.reply.1 q.reply.2 q.by.0 q.by.1 q.spare q.room))
