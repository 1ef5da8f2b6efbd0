use Rattle.std.proofs.Common.{ap}
use Rattle.push_model.specs.Sessions.{sent_pair}
use Rattle.session_core.proofs.SentLemmas.{added_more}
use Rattle.session_core.proofs.sent.add_ids.Goals as goal

pub loop-place-preserved : goal.loop-place-preserved
loop-place-preserved c =
    rw (c.in_ok-push.ensures.ok, c.loop-place.invariant, ap sent_pair c.message.view_is)
    (added_more c.args.ids c.args.page.now c.loop-place.place c.at-message.result.now c.at-message.ensures)
