use Rattle.push_model.proofs.PinsEvents.{image_caused, was_held, is_struck}
use Rattle.push_model.proofs.pins.entries_have_causes.Goals as goal

pub returns-clause-caused : goal.returns-clause-caused
returns-clause-caused c = image_caused

pub returns-clause-struck : goal.returns-clause-struck
returns-clause-struck c = λ w n k r h. let s = was_held w n k r h in (s.at, s.cell, (s.message, s.on, s.number))

pub returns-clause-strikes : goal.returns-clause-strikes
returns-clause-strikes c = is_struck
