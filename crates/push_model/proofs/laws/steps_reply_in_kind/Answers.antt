use Rattle.push_model.proofs.Replied.{replied}
use Rattle.push_model.proofs.laws.steps_reply_in_kind.Goals as goal

pub returns : goal.returns
returns c = replied
