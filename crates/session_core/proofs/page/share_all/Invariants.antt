use Rattle.std.proofs.Common.{◌≡◌, take}
use Rattle.session_core.proofs.page.share_all.Given as goal

abbrev pub invariant-loop-message : goal.invariant-loop-message
invariant-loop-message l = l.shared.items ≡ take l.message-index l.messages
