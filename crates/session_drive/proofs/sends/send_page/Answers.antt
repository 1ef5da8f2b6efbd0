use Rattle.std.proofs.Common.{sym}
use Rattle.std.proofs.lemmas.Option.{get_or_from_slice_get, slice_get_within}
use Rattle.std.proofs.lemmas.Result.{err_from_is_err_and}
use Rattle.client_messages.specs.ServerTexts.{notification_text}
use Rattle.session_drive.proofs.ChatLemmas.{page_more, page_cut}
use Rattle.session_drive.proofs.sends.send_page.Goals as goal

pub loop-place-preserved : goal.loop-place-preserved
loop-place-preserved g c =
    page_more notification_text c.args.page.now c.loop-place.place c.at.result.now _ _ _
    (slice_get_within c.args.page.now c.loop-place.place c.at.result.now c.at.ensures)
    (sym (get_or_from_slice_get c.args.page.now c.loop-place.place c.at.result.now c.at.result.now c.at.ensures))
    c.loop-place.invariant c.in_ok-send_message.ensures.said

pub returns-in_err-send_message : goal.returns-in_err-send_message
returns-in_err-send_message g c =
    let p = err_from_is_err_and c.from_residual.result c.from_residual.ensures.1 in
    rw (p.1, p.2)
    (page_cut notification_text c.args.page.now c.loop-place.place c.at.result.now _ _ _ _
    (slice_get_within c.args.page.now c.loop-place.place c.at.result.now c.at.ensures)
    (sym (get_or_from_slice_get c.args.page.now c.loop-place.place c.at.result.now c.at.result.now c.at.ensures))
    c.loop-place.invariant c.in_err-send_message.ensures)
