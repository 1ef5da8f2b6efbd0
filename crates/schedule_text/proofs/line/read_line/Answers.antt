use Rattle.std.proofs.Common.{subst, ap, ◌∙◌}
use Rattle.schedule_text.specs.Reading.{Gives, line_at}
use Rattle.schedule_text.proofs.Lines.{is_found, line_again, wants_spelled}
use Rattle.schedule_text.proofs.line.read_line.Goals as goal

pub returns-clause-found : goal.returns-clause-found
returns-clause-found c = is_found c.args.line.now c.read.result c.read.ensures.step

pub returns-clause-only : goal.returns-clause-only
returns-clause-only c = λ s h e. subst (λ r. Gives (λ x. x) c.read.result r) (ap line_at e ∙ line_again s h) c.read.ensures.step

pub returns-clause-memory : goal.returns-clause-memory
returns-clause-memory c = wants_spelled c.args.line.now c.read.result c.read.ensures.memory
