use Rattle.client_messages.proofs.Printable.{printable_utf8}
use Rattle.client_messages.proofs.data.printable_text.Goals as goal

pub returns-in-Err : goal.returns-in-Err
returns-in-Err c = absurd (c.in-Err.ensures.cases.0 (printable_utf8 c.args.bytes.now c.requires))
