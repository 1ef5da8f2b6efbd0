use Rattle.std.proofs.Common.{◌≡◌, length}
use Rattle.http_front.specs.Connections.{asks_close}
use Rattle.http_front.proofs.closing.asks_close.Given as goal

abbrev pub invariant-members : goal.invariant-members
invariant-members l = asks_close l.rest ≡ asks_close l.list

abbrev pub decreases-members : goal.decreases-members
decreases-members l = length l.rest
