use Rattle.std.proofs.Common.{[]}
use Rattle.http_wire.specs.Replies.{text_of}
use Rattle.http_wire.proofs.reply.write_reply.Goals as goal

pub returns-clause-written : goal.returns-clause-written
returns-clause-written g c =
    let before = g.W.Wire.written c.args.wire.now in
    c.finish.ensures.text before (text_of c.args.reply.now) (c.put_reply.ensures.text before [] (c.new-out.ensures.fresh before))
