use Rattle.std.proofs.Common.{◌-◌, arith}
use Rattle.lone_desk.proofs.SeatLemmas.{posts}
use Rattle.lone_desk.proofs.notes.post.Goals as goal

pub fetch_or-requires : goal.fetch_or-requires
fetch_or-requires c =
    let n = c.requires.node in
    (c.requires.words.0, (let w = c.requires.words.1 in omega arith), posts _ _ (c.from.result - 1) c.from.result _ _ (omega arith))
