use Rattle.std.proofs.Common.{◌≡◌, length}
use Rattle.http_front.specs.Connections.{skip_blanks}
use Rattle.http_front.proofs.closing.skip_blanks.Given as goal

abbrev pub invariant-loop-rest : goal.invariant-loop-rest
invariant-loop-rest l = skip_blanks l.rest ≡ skip_blanks l.member

abbrev pub decreases-loop-rest : goal.decreases-loop-rest
decreases-loop-rest l = length l.rest
