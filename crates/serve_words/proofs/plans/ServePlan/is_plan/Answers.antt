use Rattle.std.proofs.Common.{subst}
use Rattle.serve_words.specs.Plans.{IsPlan}
use Rattle.serve_words.proofs.plans.ServePlan.is_plan.Goals as goal

pub returns : goal.returns
returns c = subst IsPlan c.self.view_is c.self.invariant
