use Rattle.std.proofs.Common.{◌≡◌, rules}
use Rattle.session_front.proofs.PumpLemmas.{said_to}
use Rattle.session_front.proofs.greets.say_hello.Goals as goal

pub returns : goal.returns
returns g c =
    let same : c.s.inside.uaid ≡ c.args.s.uaid = search rules in
    said_to _ c.s.inside.uaid c.args.s.uaid _ _ same c.send.ensures
