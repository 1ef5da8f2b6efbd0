use Rattle.std.proofs.Common.{◌∙◌}
use Rattle.schedule_text.specs.Words.{word}
use Rattle.schedule_text.specs.Replies.{message_word}
use Rattle.schedule_text.proofs.Pages.{printed_more}
use Rattle.schedule_text.proofs.reply.page_line.Goals as goal

pub loop-place-preserved : goal.loop-place-preserved
loop-place-preserved c =
    printed_more (λ m. word (message_word m)) c.args.pages.now c.loop-place.place c.at.result.now _ _ c.at.ensures c.in_ok-put_message.ensures ∙ c.loop-place.invariant
