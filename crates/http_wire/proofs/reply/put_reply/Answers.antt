use Rattle.std.proofs.Common.{List, ℕ, ◌++◌, subst}
use Rattle.std.specs.Prelude.{codes}
use Rattle.std.specs.Option.{option_copied}
use Rattle.http_bytes.specs.Puts.{IsPut}
use Rattle.http_wire.specs.Replies.{status_line, allow_line, close_line, body_lines, location_line, ttl_line, body_bytes}
use Rattle.http_wire.proofs.Putting.{regroup_seven}
use Rattle.http_wire.proofs.reply.put_reply.Goals as goal

pub returns-clause-text : goal.returns-clause-text
returns-clause-text g c = λ start text h.
    let r = c.args.reply.now in
    let body = option_copied r.body in
    let P : List ℕ → Type 0 = λ t. IsPut start (g.W.Wire.written c.put_body.new.wire) t c.put_body.new.out in
    subst P (regroup_seven text (status_line r.code) (allow_line (option_copied r.allow)) (close_line r.close) (body_lines r.code body) (location_line r.location) (ttl_line r.ttl) (codes "\r\n" ++ body_bytes body))
    (c.put_body.ensures.text start _ (c.put_ttl.ensures.text start _ (c.put_location.ensures.text start _ (c.put_size.ensures.text start _ (c.put_close.ensures.text start _ (c.put_allow.ensures.text start _ (c.put_status.ensures.text start text h)))))))
