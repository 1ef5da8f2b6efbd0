use Rattle.std.proofs.Common.{sym, subst}
use Rattle.shard_core.specs.Owners.{token_owner}
use Rattle.shard_core.proofs.TokenOwners.{KnowsBrought, tokens_after}
use Rattle.shard_core.proofs.token_steps.step_leaving.Goals as goal

pub forget_token-requires : goal.forget_token-requires
forget_token-requires c =
    let owner = token_owner c.args.owners.now.entries in
    let step = c.step_at-reply in
    tokens_after step.result owner c.args.moment c.args.asked.now c.args.uaid c.args.cells.now.entries step.new.cells.entries _ _ step.ensures.ok step.ensures.err
    (subst (KnowsBrought owner c.args.uaid) (sym c.requires.none) tt) c.requires.complete

pub returns-in_default-clause-complete : goal.returns-in_default-clause-complete
returns-in_default-clause-complete c =
    let owner = token_owner c.args.owners.now.entries in
    let step = c.step_at-reply in
    tokens_after step.result owner c.args.moment c.args.asked.now c.args.uaid c.args.cells.now.entries step.new.cells.entries _ _ step.ensures.ok step.ensures.err
    (subst (KnowsBrought owner c.args.uaid) (sym c.requires.none) tt) c.requires.complete
