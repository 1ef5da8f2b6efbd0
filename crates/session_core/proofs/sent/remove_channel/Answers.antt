use Rattle.std.proofs.Common.{◌∙◌, arith, ap}
use Rattle.push_model.specs.Sessions.{is_sent}
use Rattle.session_core.proofs.SentLemmas.{others_stay, length-without_first}
use Rattle.std.specs.Prelude.{length}
use Rattle.session_core.proofs.sent.remove_channel.Goals as goal

pub loop-id-smaller : goal.loop-id-smaller
loop-id-smaller c =
    omega (arith, ap length c.remove.ensures.rest, length-without_first (is_sent c.args.c c.in-Some.id) c.loop-id.ids c.in-Some.ensures.found)

pub loop-id-preserved : goal.loop-id-preserved
loop-id-preserved c = rw c.remove.ensures.rest (others_stay c.args.c c.in-Some.id c.loop-id.ids ∙ c.loop-id.invariant)
