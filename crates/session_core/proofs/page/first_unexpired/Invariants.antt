use Rattle.std.proofs.Common.{◌≡◌, take}
use Rattle.push_model.specs.Messages.{unexpired}
use Rattle.session_core.proofs.page.first_unexpired.Given as goal

abbrev pub invariant-loop-shared : goal.invariant-loop-shared
invariant-loop-shared l = l.page.items ≡ take 10 (unexpired l.now (take l.shared-index l.inbox))
