use Rattle.schedule_text.proofs.Lines.{one_step}
use Rattle.schedule_text.proofs.laws.lines_spell_one_step.Goals as goal

pub returns : goal.returns
returns c = one_step
