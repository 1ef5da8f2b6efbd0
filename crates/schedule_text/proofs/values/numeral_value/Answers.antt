use Rattle.std.proofs.Common.{arith, sym, ◌∙◌, ap, Some, ◌+◌}
use Rattle.schedule_text.proofs.Decimals.{decimal_read, decimal_great, decimal_other}
use Rattle.schedule_text.proofs.values.numeral_value.Goals as goal
use Rattle.schedule_text.proofs.values.numeral_value.Goals.{then-word-gt20-via-then-word-gt20, then-word-gt20-via-else-word-gt20+then-not-are_decimal}

pub returns-then-word-gt20-clause-value : goal.returns-then-word-gt20-clause-value
returns-then-word-gt20-clause-value c =
    sym (decimal_other (c.args.high + 1) c.args.word.now (omega arith) (λ short numeral.
    elim c.then-word-gt20.branch [
      | then-word-gt20-via-then-word-gt20 w ↦ absurd (omega arith)
      | then-word-gt20-via-else-word-gt20+then-not-are_decimal w ↦ absurd (cc (w.are_decimal.ensures.1 numeral, w.if-not-are_decimal.true))
    ]))

pub returns-then-number-from-clause-value : goal.returns-then-number-from-clause-value
returns-then-number-from-clause-value c =
    let numeral = c.are_decimal.ensures.0 c.if-not-are_decimal.false in
    ap Some c.decimal_of-number.ensures ∙ sym (decimal_read (c.args.high + 1) c.args.word.now (omega arith) numeral (omega (arith, c.decimal_of-number.ensures, c.from.ensures, c.if-number-from.true)))

pub returns-else-number-from-clause-value : goal.returns-else-number-from-clause-value
returns-else-number-from-clause-value c =
    sym (decimal_great (c.args.high + 1) c.args.word.now (omega arith) (omega (arith, c.decimal_of-number.ensures, c.from.ensures, c.if-number-from.false)))
