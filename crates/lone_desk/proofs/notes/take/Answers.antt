use Rattle.std.proofs.Common.{◌-◌, arith}
use Rattle.lone_desk.proofs.SeatLemmas.{takes_all}
use Rattle.lone_desk.proofs.notes.take.Goals as goal

pub swap-requires : goal.swap-requires
swap-requires c =
    let n = c.requires.node in
    (c.requires.words.0, (let w = c.requires.words.1 in omega arith), takes_all _ _ (c.from.result - 1) c.from.result _ (omega arith))
