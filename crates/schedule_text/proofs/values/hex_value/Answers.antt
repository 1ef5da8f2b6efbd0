use Rattle.std.proofs.Common.{arith, sym, ◌∙◌, ap, Some}
use Rattle.schedule_text.proofs.HexNumerals.{hex_read, hex_other}
use Rattle.schedule_text.proofs.values.hex_value.Goals as goal
use Rattle.schedule_text.proofs.values.hex_value.Goals.{then-word-gt32-via-then-word-gt32, then-word-gt32-via-else-word-gt32+then-not-are_numeral}

pub returns-then-word-gt32 : goal.returns-then-word-gt32
returns-then-word-gt32 c =
    sym (hex_other c.args.word.now (λ short numeral.
    elim c.then-word-gt32.branch [
      | then-word-gt32-via-then-word-gt32 w ↦ absurd (omega arith)
      | then-word-gt32-via-else-word-gt32+then-not-are_numeral w ↦ absurd (cc (w.are_numeral.ensures.1 numeral, w.if-not-are_numeral.true))
    ]))

pub returns : goal.returns
returns c = ap Some c.number_of.ensures ∙ sym (hex_read c.args.word.now c.if-word-gt32.false (c.are_numeral.ensures.0 c.if-not-are_numeral.false))
