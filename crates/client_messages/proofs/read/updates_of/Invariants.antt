use Rattle.std.proofs.Common.{◌≡◌, take}
use Rattle.serde_json.specs.View.{items_view}
use Rattle.client_messages.specs.ClientTexts.{updates_of}
use Rattle.client_messages.proofs.read.updates_of.Given as goal

abbrev pub invariant-loop-member : goal.invariant-loop-member
invariant-loop-member l = l.updates ≡ updates_of (items_view (take l.member-index l.members))
