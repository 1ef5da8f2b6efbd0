use Rattle.std.proofs.Common.{refl}
use Rattle.uuid.specs.Text.{by_index}
use Rattle.base64.specs.Rfc4648.{encode_symbols}
use Rattle.client_messages.specs.ServerTexts.{notification_with}
use Rattle.client_messages.proofs.pins.notifications_look_so.Goals as goal

pub returns : goal.returns
unfolding notification_with by_index encode_symbols
returns c = record { empty = refl; content = refl; bare = refl }
