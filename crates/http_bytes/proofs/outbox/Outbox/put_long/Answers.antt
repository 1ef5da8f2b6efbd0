use Rattle.std.proofs.Common.{sym, ◌∙◌}
use Rattle.http_bytes.proofs.Putting.{settles, drops_piece}
use Rattle.http_bytes.proofs.outbox.Outbox.put_long.Goals as goal

pub returns-then-has_failed-clause-text : goal.returns-then-has_failed-clause-text
returns-then-has_failed-clause-text g c = λ start text h.
    drops_piece _ start _ text _ c.args.piece.now (sym c.has_failed.ensures ∙ c.if-has_failed.true) (c.flush.ensures.text start text h)

pub returns-clause-text : goal.returns-clause-text
returns-clause-text g c = λ start text h.
    let bytes = c.write_all-written.ensures.bytes in
    settles c.write_all-written.result start _ _ text c.args.piece.now c.flush.new.self c.settle.new.self (sym c.has_failed.ensures ∙ c.if-has_failed.false)
    (c.flush.ensures.text start text h) (rw c.flush.ensures.empty bytes) c.settle.ensures
