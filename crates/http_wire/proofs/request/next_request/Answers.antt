use Rattle.std.proofs.Common.{refl}
use Rattle.http_wire.proofs.Beginning.{request_taken, body_break}
use Rattle.http_wire.proofs.request.next_request.Goals as goal

pub returns-in-Ok-read_body-clause-ok : goal.returns-in-Ok-read_body-clause-ok
returns-in-Ok-read_body-clause-ok g c =
    let head = rw c.is_empty.ensures at c.with_body.ensures in
    request_taken _ _ _ _ _ _ c.in-Ok.start.head c.in-Ok.start.framing c.in-Ok-read_body.body _ c.in-Ok.ensures.ok c.in-Ok-read_body.ensures.ok refl head

pub returns-in-Err-read_body-clause-err : goal.returns-in-Err-read_body-clause-err
returns-in-Err-read_body-clause-err g c =
    body_break c.in-Err-read_body.fault _ _ _ _ _ c.in-Ok.start.head c.in-Ok.start.framing c.in-Ok.ensures.ok c.in-Err-read_body.ensures.err
