use Rattle.std.proofs.Common.{map, take, None}
use Rattle.client_messages.specs.ServerTexts.{notification_text}
use Rattle.session_drive.specs.Chats.{Said, chat_view}
use Rattle.session_drive.proofs.sends.send_page.Given as goal

abbrev pub invariant-loop-place : goal.invariant-loop-place
invariant-loop-place g l = Said None (map notification_text (take l.place l.page))
    (chat_view g.H.Chat.left g.H.Chat.taken g.H.Chat.sent g.H.Chat.code g.H.Chat.faults l.initial.chat)
    (chat_view g.H.Chat.left g.H.Chat.taken g.H.Chat.sent g.H.Chat.code g.H.Chat.faults l.chat)
