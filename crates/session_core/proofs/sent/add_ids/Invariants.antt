use Rattle.std.proofs.Common.{◌≡◌, ◌++◌, take}
use Rattle.std.specs.Prelude.{map}
use Rattle.push_model.specs.Sessions.{sent_pair}
use Rattle.session_core.proofs.sent.add_ids.Given as goal

abbrev pub invariant-loop-place : goal.invariant-loop-place
invariant-loop-place l = l.ids ≡ l.fn.ids ++ map sent_pair (take l.place l.page)
