-- What a step on one user leaves, and what it replies.
use Rattle.std.specs.Prelude.{}
use Rattle.push_model.specs.declared.advance.Advance.{Advance}
use Rattle.push_model.specs.declared.reply.Reply.{Reply}
use Rattle.push_model.specs.declared.step.Stage.TheVariants.{Nudge as AtNudge}
use Rattle.push_model.specs.declared.advance.Advance.TheVariants.{Moved as Goes, End as Ends, Out, Absent}
use Rattle.push_model.specs.declared.reply.Reply.TheVariants.{Names, End, Moved, Stage as StageIs}
use Rattle.push_model.specs.Cells.{Cell}

-- a cell after a step, and the reply
pub record Outcome : Type 0 where
  pub cell : Cell
  pub reply : Reply

abbrev pub outcome : Cell → Reply → Outcome
outcome c r = record { cell = c; reply = r }

-- ---- where an actor stands, or how it ended; `absent` where it is not there

abbrev pub advance_reply : Advance → Reply → Reply
advance_reply (Goes stage) absent = Moved stage
advance_reply (Ends code) absent = End code
advance_reply (Out stage) absent = StageIs stage
advance_reply Absent absent = absent

abbrev pub read_reply : Advance → Reply → Reply
read_reply (Goes (AtNudge n a)) absent = Names n a
read_reply advance absent = advance_reply advance absent
