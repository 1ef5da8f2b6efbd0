use Rattle.std.proofs.Common.{sym, subst, ◌∙◌}
use Rattle.std.specs.Prelude.{Some}
use Rattle.shard_core.specs.Owners.{holds, token_owner}
use Rattle.shard_core.proofs.Owners.{none_has}
use Rattle.shard_core.proofs.Puts.{at_ok}
use Rattle.shard_core.proofs.TokenOwners.{KnowsBrought, token_changes, tokens_after}
use Rattle.shard_core.proofs.token_steps.step_bringing.Goals as goal

pub forget_token-requires : goal.forget_token-requires
forget_token-requires c =
    let es = c.args.cells.now.entries in
    let u = c.args.uaid in
    let t = c.args.token.now in
    let after = c.insert.new.self.entries in
    let fine = sym c.is_err.ensures.value ∙ c.if-is_err.false in
    let updates = at_ok c.insert.result fine c.insert.ensures.updates in
    let noted = token_changes c.args.owners.now.entries after t (Some u.0) es updates.0 (none_has holds t es c.requires.free) c.requires.complete in
    let step = c.step_at-reply in
    tokens_after step.result (token_owner after) c.args.moment c.args.asked.now u es step.new.cells.entries _ _ step.ensures.ok step.ensures.err
    (subst (KnowsBrought (token_owner after) u) (sym c.requires.brings) updates.1) noted
