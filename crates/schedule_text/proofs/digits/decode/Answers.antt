use Rattle.std.proofs.Common.{arith, refl, sym}
use Rattle.schedule_text.proofs.DigitPairs.{decode_start, decode_step, decode_done, decoded_is}
use Rattle.schedule_text.proofs.digits.decode.Goals as goal

pub bytes-init : goal.bytes-init
bytes-init c = decode_start c.args.digits.now

pub bytes-preserved : goal.bytes-preserved
bytes-preserved c =
    decode_step c.args.digits.now c.bytes.bytes c.bytes.place _ _ _ (omega arith) (omega arith) refl c.value_of-in-bytes.ensures.below c.value_of.ensures.place c.value_of-in-bytes.ensures.place c.bytes.invariant

pub returns-clause-spelled : goal.returns-clause-spelled
returns-clause-spelled c = decode_done c.args.digits.now c.bytes.bytes c.bytes.place (omega arith) (omega arith) c.bytes.invariant

pub returns-clause-value : goal.returns-clause-value
returns-clause-value c =
    let whole = decode_done c.args.digits.now c.bytes.bytes c.bytes.place (omega arith) (omega arith) c.bytes.invariant in
    sym (decoded_is c.args.digits.now c.bytes.bytes c.requires.digits whole)
