use Rattle.std.proofs.Common.{arith, refl, ◌+◌}
use mathlib.Core.Option.{none}
use Rattle.atomic_table.specs.Table.{step}
use Rattle.turn_board.proofs.Mailing.{posts, wrote}
use Rattle.turn_board.proofs.mail_words.post_as.Goals as goal

pub fetch_or-requires : goal.fetch_or-requires
fetch_or-requires g c =
    let q = c.requires in
    let e = c.from.ensures in
    (q.table.0, (let w = q.table.1 in let l = q.slot in omega arith), posts _ _ _ _ _ _ c.from.result _ c.args.by c.args.bits _ q.free.0 q.free.1 q.free.2 q.written refl (let l = q.slot in omega arith))

pub returns-clause-written : goal.returns-clause-written
returns-clause-written g c = wrote g.T.Object.run g.T.Object.proper c.args.table.now.shared.key.value c.from.result c.args.slot c.fetch_or.result c.args.seat.now.me c.fetch_or.new.seat.me g.E.Written.written _ (step c.args.table.now.shared.table_id.slots (c.from.result + 5) c.args.bits 0 none) c.fetch_or.ensures.2 refl c.from.ensures (c.requires.written c.fetch_or.result)
