use Rattle.std.proofs.Common.{arith}
use Rattle.std.proofs.lemmas.Int.Digits.{digits_value_more}
use Rattle.schedule_text.proofs.HexNumerals.{still_below}
use Rattle.schedule_text.proofs.digits.number_of.Goals as goal

pub overflow_mul-number : goal.overflow_mul-number
overflow_mul-number c =
    let b = still_below c.loop-digit.digit-index c.loop-digit.number 0 (omega arith) c.loop-digit.invariant.below (omega arith) in
    omega (arith, b.fits)

pub overflow_add-number : goal.overflow_add-number
overflow_add-number c =
    let b = still_below c.loop-digit.digit-index c.loop-digit.number c.from.result (omega arith) c.loop-digit.invariant.below (omega (arith, c.from.ensures, c.value_of.ensures.below)) in
    omega (arith, b.fits)

pub loop-digit-preserved : goal.loop-digit-preserved
loop-digit-preserved c =
    let b = still_below c.loop-digit.digit-index c.loop-digit.number c.from.result (omega arith) c.loop-digit.invariant.below (omega (arith, c.from.ensures, c.value_of.ensures.below)) in
    let more = digits_value_more 16 c.args.digits.now c.loop-digit.digit-index c.loop-digit-test.true in
    record { below = b.next; value = omega (arith, more, c.loop-digit.invariant.value, c.from.ensures, c.value_of.ensures.value) }
