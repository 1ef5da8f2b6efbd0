use Rattle.std.proofs.Common.{Some, subst}
use Rattle.node_control.specs.Steps.{Follows, Obeys}
use Rattle.node_control.specs.declared.commands.Command.{Command}
use Rattle.node_control.proofs.WorkLemmas.{answered_by}
use Rattle.node_control.proofs.answers.answer_line.Goals as goal

pub returns-in-All-clause-line : goal.returns-in-All-clause-line
returns-in-All-clause-line g c =
    answered_by c.args.line.now c.in-Some.reply _ _ _ _ _
    (subst (λ (x : Command). Obeys (Some c.in-Some.reply) x (g.D.Desks.view c.args.desks.now) (g.D.Desks.view c.obey.new.desks)) c.command_of-command.ensures c.in-Some.ensures)
    (subst (λ (x : Command). Follows x (g.D.Desks.view c.obey.new.desks) (g.D.Desks.view c.follow.new.desks)) c.command_of-command.ensures c.follow.ensures)
    c.in-All.ensures.bytes
