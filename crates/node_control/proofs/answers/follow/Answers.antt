use Rattle.node_control.proofs.WorkLemmas.{follows_none}
use Rattle.node_control.proofs.answers.follow.Goals as goal

pub returns-in_default : goal.returns-in_default
returns-in_default g c = follows_none c.args.command.now _ c.in_default.not-Kill
