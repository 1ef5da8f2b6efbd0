-- What the steps of a route find and leave of its flight, at desks that others share.
use Rattle.std.specs.Prelude.{◌≡◌, false, Some}
use Rattle.push_model.specs.declared.ids.Op.{Op}
use Rattle.push_model.specs.declared.parts.FlightRow.{FlightRow}
use Rattle.push_model.specs.declared.step.Stage.{Stage}
use Rattle.push_model.specs.declared.step.Step.{Step}
use Rattle.push_model.specs.declared.reply.Reply.{Reply}
use Rattle.push_model.specs.declared.reply.Reply.TheVariants.{Stage as IsAtStage}
use Rattle.push_model.specs.Advances.{at_stage}
use Rattle.push_model.specs.Worlds.{World}
use Rattle.push_model.specs.Replies.{is_refusal}
use Rattle.push_model.specs.Frames.{SameFlight, Turned, flight_at}
use Rattle.push_model.specs.OwnSteps.{IsDue, IsToldAgain, stage_after}

-- The flight was f, and w is the world after an entry of its own pass. Before that entry others may have turned its stage.
-- Where the step is made at the stage that it met, it isn't refused, and the flight goes on as the reply says. A Direct or a
-- Nudge that others made before it is told the stage that it met, and the flight stays.
pub record GoesOn (op : Op) (x : Step) (r : Reply) (f : FlightRow) (w : World) : Type 0 where
  pub met : FlightRow
  pub turned : SameFlight Turned f met
  pub answered : IsDue op x met.stage → is_refusal r ≡ false
  pub onward : (s : Stage) → IsDue op x met.stage → stage_after r met.stage ≡ Some s → flight_at op w ≡ Some (at_stage s met)
  pub again : IsToldAgain op x met.stage → (r ≡ IsAtStage met.stage) × (flight_at op w ≡ Some met)
