use Rattle.uuid.specs.Text.{parsed}
use Rattle.client_messages.proofs.Nones.{none_left}
use Rattle.client_messages.proofs.ids.parsed_text.Goals as goal

pub returns-in-Err : goal.returns-in-Err
returns-in-Err c = none_left (parsed c.args.text.now) c.in-Err.ensures.ok.1
