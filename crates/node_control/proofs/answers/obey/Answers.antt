use Rattle.std.proofs.Common.{[], refl, subst, sym}
use Rattle.push_model.specs.declared.reply.Reply.TheVariants.{Unknown as IsUnknown}
use Rattle.node_sweep.proofs.EntryLemmas.{does_none}
use Rattle.node_control.specs.Steps.{Obeys}
use Rattle.node_control.specs.declared.commands.Command.{Command}
use Rattle.std.proofs.Common.{Some}
use Rattle.push_model.specs.declared.reply.Reply.TheVariants.{Counts as CountsAre}
use Rattle.node_control.proofs.WorkLemmas.{report_made}
use Rattle.node_control.proofs.answers.obey.Goals as goal

pub returns-in-Report : goal.returns-in-Report
returns-in-Report g c =
    subst (λ (x : Command). Obeys (Some (CountsAre c.report_all.result)) x (g.D.Desks.view c.args.desks.now) (g.D.Desks.view c.report_all.new.desks)) (sym c.in-Report.is)
    (report_made c.report_all.result _ _ _ c.sweep_all.ensures c.report_all.ensures.reported c.report_all.ensures.none_waits)

pub returns-in-Unknown : goal.returns-in-Unknown
returns-in-Unknown g c =
    subst (λ (x : Command). Obeys (Some IsUnknown) x (g.D.Desks.view c.args.desks.now) (g.D.Desks.view c.args.desks.now)) (sym c.in-Unknown.is) ([], does_none _, (refl, refl))
