use Rattle.std.proofs.Common.{◌∙◌}
use Rattle.schedule_text.specs.Words.{word}
use Rattle.schedule_text.specs.Replies.{user_word}
use Rattle.schedule_text.proofs.Pages.{printed_more}
use Rattle.schedule_text.proofs.reply.users_line.Goals as goal

pub loop-place-preserved : goal.loop-place-preserved
loop-place-preserved c =
    printed_more (λ u. word (user_word u)) c.args.users.now c.loop-place.place c.at.result _ _ c.at.ensures c.in_ok-put_user.ensures ∙ c.loop-place.invariant
