use Rattle.std.proofs.Common.{subst, sym}
use Rattle.http_wire.specs.Requests.{IsBad}
use Rattle.http_wire.proofs.Exclusive.{not_bad}
use Rattle.http_wire.proofs.Lasting.{bad_lasts}
use Rattle.http_wire.proofs.laws.malformed_bytes_stay_so.Goals as goal

pub returns : goal.returns
returns c = record { lasts = bad_lasts; no_front = λ t y seen more r h e k. not_bad t y r h (subst IsBad (sym e) (bad_lasts seen more k)) }
