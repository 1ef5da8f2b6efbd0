use Rattle.std.proofs.Common.{refl}
use Rattle.hex.specs.Hex.{encode_with}
use Rattle.http_wire.proofs.pins.replies_are_spelled.Goals as goal

pub returns-clause-location : goal.returns-clause-location
unfolding encode_with
returns-clause-location c = refl
