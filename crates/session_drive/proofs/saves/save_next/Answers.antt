use Rattle.std.proofs.Common.{arith, ◌≡◌, ◌+◌, ◌-◌, ◌^◌, refl}
use Rattle.std.specs.Prelude.{min}
use Rattle.session_drive.proofs.SaveLemmas.{saves_kept, saves_all}
use Rattle.session_drive.proofs.saves.save_next.Goals as goal

pub returns-in-Kept-clause-step : goal.returns-in-Kept-clause-step
returns-in-Kept-clause-step g c = λ n d m low e.
    let more : c.saturating_add.result ≡ min (c.args.saved + 1) (2 ^ 32 - 1) = omega (arith, c.saturating_add.ensures) in
    saves_kept c.args.shard c.args.s n d m low _ _ _ _ e more c.in-Kept.ensures.step

pub returns-else-saved-eq0-clause-step : goal.returns-else-saved-eq0-clause-step
returns-else-saved-eq0-clause-step g c = λ n d m low e. saves_all c.args.shard c.args.s n d m low _ _ _ _ _ e c.if-saved-eq0.false refl c.in-All.ensures.step c.reread-node.ensures.step
