use Rattle.std.proofs.Common.{◌≡◌, true, false, sym, ap, ◌∙◌, arith}
use Rattle.std.specs.Prelude.{decimal}
use Rattle.std.specs.Str.{bytes_eq}
use Rattle.std.proofs.lemmas.Fmt.{parse-decimal}
use Rattle.std.proofs.lemmas.Slice.Eq.{bytes_eq-Decides}
use Rattle.serve_words.proofs.numbers.number_of.Goals as goal

pub returns-else-eq-clause-none : goal.returns-else-eq-clause-none
returns-else-eq-clause-none c = λ o n low e.
    let read = parse-decimal 16 n c.args.word.now c.parse.result low (omega arith) e c.parse.ensures.value.0 in
    let same : c.in-Ok.number ≡ n = cc in
    let text : c.format.result.now ≡ c.args.word.now = c.format.ensures.text ∙ (ap decimal same ∙ sym e) in
    let yes : bytes_eq c.format.result.now c.args.word.now ≡ true = (bytes_eq-Decides c.format.result.now c.args.word.now).1 text in
    let odd : true ≡ false = sym yes ∙ (sym c.eq.ensures ∙ c.if-eq.false) in
    cc

pub returns-in-Err-clause-none : goal.returns-in-Err-clause-none
returns-in-Err-clause-none c = λ o n low e.
    let read = parse-decimal 16 n c.args.word.now c.parse.result low (omega arith) e c.parse.ensures.value.0 in
    cc
