use Rattle.std.proofs.Common.{◌<◌, arith, length, rules}
use Rattle.std.proofs.lemmas.Grind.{common_steps}
use Rattle.schedule_text.specs.Reading.{decoded}
use Rattle.schedule_text.proofs.DigitPairs.{decoded-nil, length-decoded}
use Rattle.schedule_text.proofs.values.payload_of.Goals as goal

pub returns-then-is_empty-clause-value : goal.returns-then-is_empty-clause-value
returns-then-is_empty-clause-value c = grind (arith, common_steps, decoded-nil)

pub returns-in_err-bytes-clause-wanted : goal.returns-in_err-bytes-clause-wanted
returns-in_err-bytes-clause-wanted c =
    let size = length-decoded c.args.digits.now c.requires.all c.requires.even in
    let wanted : 0 < length (decoded c.args.digits.now) = grind (arith, common_steps, size) in
    search rules
