use Rattle.std.proofs.Common.{refl}
use Rattle.uuid.specs.Text.{by_index}
use Rattle.client_messages.proofs.pins.ids_look_so.Goals as goal

pub returns : goal.returns
unfolding by_index
returns c = record { uaid = refl; chid = refl; digits = refl; hyphens = refl; short = refl }
