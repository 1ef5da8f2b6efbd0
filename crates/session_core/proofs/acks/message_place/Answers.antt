use Rattle.push_model.specs.Messages.{is_message}
use Rattle.push_model.proofs.KeyedLemmas.{place_found}
use Rattle.session_core.proofs.acks.message_place.Goals as goal

pub returns : goal.returns
returns c = place_found (is_message c.args.c c.args.id) c.args.messages.now _ c.first_message.ensures
