use Rattle.std.proofs.Common.{◌+◌, ◌++◌, arith, drop, get_or, refl, take}
use Rattle.node_control.proofs.ByteLemmas.{cut_at, takes_more}
use Rattle.node_control.proofs.bytes.take_bytes.Goals as goal

pub returns-in-Some-clause-takes : goal.returns-in-Some-clause-takes
returns-in-Some-clause-takes g c = λ a held read h.
    let i = c.loop-byte.byte-index in
    let bytes = c.args.bytes.now in
    takes_more c.in-Some.end a _ held _ _ (drop (i + 1) bytes) (read ++ bytes) _ _ (cut_at read bytes i (get_or bytes i 0) (omega arith) refl)
    (c.in-Some.ensures.takes a held (read ++ take i bytes) (c.loop-byte.invariant.goes a held read h))
