use Rattle.std.proofs.Common.{List, ℕ, subst}
use Rattle.std.specs.Prelude.{codes}
use Rattle.http_bytes.specs.Puts.{IsPut}
use Rattle.http_wire.proofs.Putting.{regroup_five}
use Rattle.http_wire.proofs.reply.put_version.Goals as goal

pub returns-clause-text : goal.returns-clause-text
returns-clause-text g c = λ start text h.
    let P : List ℕ → Type 0 = λ t. IsPut start (g.W.Wire.written c.put-5.new.wire) t c.put-5.new.self in
    subst P (regroup_five text (codes "Location: /m/") c.args.shard.now (codes "-") c.args.number.now (codes "\r\n"))
    (c.put-5.ensures.text start _ (c.put-4.ensures.text start _ (c.put-3.ensures.text start _ (c.put-2.ensures.text start _ (c.put.ensures.text start text h)))))
