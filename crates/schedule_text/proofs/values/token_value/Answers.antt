use Rattle.std.proofs.Common.{arith, sym, ap, ◌∙◌, ◌-◌, length}
use Rattle.std.specs.List.{list_all}
use Rattle.schedule_text.specs.Reading.{is_digit}
use Rattle.schedule_text.proofs.Zeros.{padded_digits}
use Rattle.schedule_text.proofs.ValueLaws.{token_read, token_other}
use Rattle.schedule_text.proofs.values.token_value.Goals as goal
use Rattle.schedule_text.proofs.values.token_value.Goals.{then-word-gt48-via-then-word-gt48, then-word-gt48-via-else-word-gt48+then-not-are_numeral}

pub returns-then-word-gt48 : goal.returns-then-word-gt48
returns-then-word-gt48 c =
    sym (token_other c.args.word.now (λ short numeral.
    elim c.then-word-gt48.branch [
      | then-word-gt48-via-then-word-gt48 w ↦ absurd (omega arith)
      | then-word-gt48-via-else-word-gt48+then-not-are_numeral w ↦ absurd (cc (w.are_numeral.ensures.1 numeral, w.if-not-are_numeral.true))
    ]))

pub decode-requires-clause-digits : goal.decode-requires-clause-digits
decode-requires-clause-digits c =
    let numeral = c.are_numeral.ensures.0 c.if-not-are_numeral.false in
    ap (list_all is_digit) c.padded.ensures ∙ padded_digits (48 - length c.args.word.now) c.args.word.now numeral.all

pub returns : goal.returns
returns c =
    let numeral = c.are_numeral.ensures.0 c.if-not-are_numeral.false in
    sym (token_read c.args.word.now (record { 0 = c.decode.new.bytes }) c.if-word-gt48.false numeral (c.decode.ensures.spelled ∙ c.padded.ensures))
