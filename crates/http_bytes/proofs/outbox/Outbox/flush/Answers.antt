use Rattle.std.proofs.Common.{sym, ◌∙◌}
use Rattle.http_bytes.proofs.Putting.{flushes}
use Rattle.http_bytes.proofs.outbox.Outbox.flush.Goals as goal

pub returns-clause-text : goal.returns-clause-text
returns-clause-text g c = λ start text h.
    let bytes = rw c.text.ensures at c.write_all-written.ensures.bytes in
    flushes c.write_all-written.result start _ _ text c.args.self.now c.settle.new.self (sym c.has_failed.ensures ∙ c.if-has_failed.false) h bytes c.settle.ensures
