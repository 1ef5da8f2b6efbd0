use Rattle.std.proofs.Common.{◌≡◌, refl, ◌∙◌, Some}
use Rattle.push_model.specs.declared.step.Stage.TheVariants.{Nudge as AtNudge}
use Rattle.push_model.specs.SaverSteps.{saver}
use Rattle.user_cell.proofs.NudgeLemmas.{saver_nudge_is}
use Rattle.user_cell.proofs.Room.{room_moved}
use Rattle.user_cell.proofs.cell.UserCell.saver_nudge.Goals as goal

pub invariant_of-self : goal.invariant_of-self
invariant_of-self c = (c.self-in-Nudge.invariant.0, rw (c.advance.ensures.savers, c.advance.ensures.spare) (room_moved _ _ _ _ _ c.self-in-Nudge.invariant.1))

pub returns-in-Nudge : goal.returns-in-Nudge
returns-in-Nudge c =
    let v = c.in-Some.ensures.some.0 in
    let there : saver c.args.s c.args.self.now ≡ Some v = rw (← c.self.view_is) c.in-Some.ensures.some.1 in
    let stage : v.stage ≡ AtNudge c.in-Nudge.node c.in-Nudge.field-1 = c.in-Some.ensures.some.2 ∙ c.in-Nudge.is in
    rw (saver_nudge_is c.in-Nudge.node c.in-Nudge.field-1 c.args.s c.args.self.now v there stage, ← c.tell-told.ensures.cell, ← c.self-in-Nudge.view_is, c.told_reply.ensures, c.advance.ensures.savers, c.tell-told.ensures.found) refl
