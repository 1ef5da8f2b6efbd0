use Rattle.std.proofs.Common.{rules}
use Rattle.std.proofs.lemmas.Fn.{filter_same}
use Rattle.shutdown_save.proofs.node.remove_on.Goals as goal

pub returns-clause-savers : goal.returns-clause-savers
returns-clause-savers c = filter_same _ _ _ (λ x b f' k. search rules) _ _ c.retain.ensures.filtered
