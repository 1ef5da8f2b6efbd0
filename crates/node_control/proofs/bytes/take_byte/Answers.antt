use Rattle.std.proofs.Common.{◌≡◌, ◌==◌, ℕ, List, false, rules, subst}
use Rattle.node_control.specs.Steps.{DoesLine}
use Rattle.node_control.proofs.ByteLemmas.{goes_on, line_ended}
use Rattle.node_control.proofs.bytes.take_byte.Goals as goal

pub returns-then-byte-ne10-clause-takes : goal.returns-then-byte-ne10-clause-takes
returns-then-byte-ne10-clause-takes g c = λ a held read h.
    let other : (c.args.byte == 10) ≡ false = search rules in
    goes_on a _ held _ read c.args.front.now _ c.args.byte h other c.push.ensures

pub returns-clause-takes : goal.returns-clause-takes
returns-clause-takes g c = λ a held read h.
    let is_lf : c.args.byte ≡ 10 = search rules in
    line_ended a _ _ held _ _ read c.args.front.now c.args.byte _ c.answer_line-end.result h is_lf c.clear.ensures
    (subst (λ (l : List ℕ). DoesLine c.answer_line-end.result l (g.D.Desks.view c.args.desks.now) (g.D.Desks.view c.answer_line-end.new.desks) (g.K.Sink.written c.args.output.now) (g.K.Sink.written c.answer_line-end.new.output)) c.bytes.ensures c.answer_line-end.ensures.line)
