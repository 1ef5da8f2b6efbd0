use Rattle.http_wire.proofs.Chunking.{data_inside, data_taken, data_never_full}
use Rattle.http_bytes.proofs.Breaking.{Breaks-as}
use Rattle.http_wire.proofs.chunk.read_data.Goals as goal

pub skip-requires : goal.skip-requires
skip-requires g c =
    let found = rw c.in-Ok.ensures.same at c.in-Ok.ensures.found in
    data_inside _ _ found

pub returns-in-Ok-extend_from_slice-clause-ok : goal.returns-in-Ok-extend_from_slice-clause-ok
returns-in-Ok-extend_from_slice-clause-ok g c =
    let found = rw c.in-Ok.ensures.same at c.in-Ok.ensures.found in
    data_taken _ _ _ _ _ _ _ c.args.size c.in-Ok.ensures.bytes found c.skip.ensures.after (rw (← c.bytes.ensures.value) c.in-Ok-extend_from_slice.ensures.items)

pub returns-in-Err-clause-err : goal.returns-in-Err-clause-err
returns-in-Err-clause-err g c =
    let err = rw c.in-Err.ensures.same at c.in-Err.ensures.err in
    Breaks-as c.in-Err.fault _ _ _ _ _ _ _ (λ s p. p.0) (data_never_full c.args.size c.requires) err
