use Rattle.std.proofs.Common.{sym, subst}
use Rattle.http_front.specs.Rows.{IsTellable}
use Rattle.http_front.proofs.FrontLemmas.{fault_tellable}
use Rattle.http_front.proofs.refusal.Refusal.of_fault.Goals as goal

pub returns-clause-tellable : goal.returns-clause-tellable
returns-clause-tellable c = subst IsTellable (sym c.fault_row.ensures) (fault_tellable c.args.fault)
