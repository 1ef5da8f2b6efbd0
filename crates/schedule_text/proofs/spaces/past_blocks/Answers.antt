use Rattle.std.proofs.Common.{arith, sym, ◌∙◌}
use Rattle.schedule_text.proofs.SpaceLaws.{none_more}
use Rattle.schedule_text.proofs.spaces.past_blocks.Goals as goal

pub loop-at-preserved : goal.loop-at-preserved
loop-at-preserved c = record {
  within = omega arith;
  none = none_more c.args.bytes.now c.loop-at.at 32 c.loop-at.invariant.none (sym c.has_space.ensures ∙ c.if-not-has_space.true);
}
