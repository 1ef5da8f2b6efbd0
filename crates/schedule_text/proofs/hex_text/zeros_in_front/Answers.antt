use Rattle.std.proofs.Common.{sym, ◌∙◌, arith, drop, length-drop}
use Rattle.schedule_text.proofs.Zeros.{trimmed_short, trimmed_there, trimmed_behind}
use Rattle.schedule_text.proofs.hex_text.zeros_in_front.Goals as goal

pub returns-then-digits-zeros-ne48-clause-rest : goal.returns-then-digits-zeros-ne48-clause-rest
returns-then-digits-zeros-ne48-clause-rest c =
    sym (trimmed_there c.args.digits.now c.loop-zeros.zeros (omega arith) c.if-digits-zeros-ne48.true) ∙ c.loop-zeros.invariant.same

pub loop-zeros-preserved : goal.loop-zeros-preserved
loop-zeros-preserved c = record {
  within = omega arith;
  same = trimmed_behind c.args.digits.now c.loop-zeros.zeros c.loop-zeros-test.true c.if-digits-zeros-ne48.false ∙ c.loop-zeros.invariant.same;
}

pub returns-clause-rest : goal.returns-clause-rest
returns-clause-rest c =
    sym (trimmed_short (drop c.loop-zeros.zeros c.args.digits.now) (omega (arith, length-drop c.loop-zeros.zeros c.args.digits.now))) ∙ c.loop-zeros.invariant.same
