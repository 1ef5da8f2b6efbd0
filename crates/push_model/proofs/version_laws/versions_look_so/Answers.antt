use Rattle.std.proofs.Common.{refl}
use Rattle.hex.specs.Hex.{encode_with}
use Rattle.push_model.proofs.version_laws.versions_look_so.Goals as goal

pub returns : goal.returns
unfolding encode_with
returns c = record { first = refl; late = refl }
