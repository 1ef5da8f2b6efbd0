use Rattle.schedule_text.proofs.Zeros.{zeros_before}
use Rattle.schedule_text.proofs.values.padded.Goals as goal

pub returns : goal.returns
returns c = let after = c.copy_from_slice.ensures.after in rw after (zeros_before c.args.word.now c.requires)
