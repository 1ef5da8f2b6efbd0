use Rattle.std.proofs.Common.{◌≡◌, ◌==◌, true, Some, rules}
use Rattle.session_drive.proofs.acks.ack.Goals as goal

pub returns : goal.returns
returns g c =
    let here : (c.args.id.shard == c.args.shard) ≡ true = search rules in
    record { reply = Some c.in-Ok.reply; calls = c.in-Ok.ensures.made; mail = c.in-Ok.ensures.mail; says = rw here c.acked_by.ensures }
