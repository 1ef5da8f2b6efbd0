use Rattle.std.proofs.Common.{◌≡◌, ◌==◌, ℕ, List, [], ◌∷◌, length, true, false, ap, sym, subst, refl, ◌∙◌, arith, None, Some}
use Rattle.std.proofs.lemmas.Bool.{eqb-true}
use Rattle.node_control.specs.Steps.{DoesLine}
use Rattle.node_control.proofs.ByteLemmas.{last_answered, last_ended, none_left}
use Rattle.node_control.proofs.controls.finish.Goals as goal

none_of : (l : List ℕ) → (length l == 0) ≡ true → l ≡ []
none_of [] e = refl
none_of (b ∷ l) e = let zero : length (b ∷ l) ≡ 0 = eqb-true (length (b ∷ l)) 0 e in absurd (omega arith)

some_of : (l : List ℕ) → (length l == 0) ≡ false → l ≡ [] → ⊥
some_of l e is = let odd : true ≡ false = sym (ap (λ (k : List ℕ). length k == 0) is) ∙ e in cc

pub returns-then-is_empty-clause-controls : goal.returns-then-is_empty-clause-controls
returns-then-is_empty-clause-controls g c = λ before after held a read h input whole.
    none_left before after held _ a _ read c.args.front.now h input whole (none_of c.args.front.now (sym c.is_empty.ensures ∙ c.if-is_empty.true))

pub returns-in-None-clause-controls : goal.returns-in-None-clause-controls
returns-in-None-clause-controls g c = λ before after held a read h input whole.
    last_answered before after held _ a _ read c.args.front.now h input whole _ _ (some_of c.args.front.now (sym c.is_empty.ensures ∙ c.if-is_empty.false))
    (subst (λ (l : List ℕ). DoesLine None l (g.D.Desks.view c.args.desks.now) (g.D.Desks.view c.answer_line.new.desks) (g.K.Sink.written c.args.output.now) (g.K.Sink.written c.answer_line.new.output)) c.bytes.ensures c.in-None.ensures.line)

pub returns-in-Some-clause-controls : goal.returns-in-Some-clause-controls
returns-in-Some-clause-controls g c = λ before after held a read h input whole.
    last_ended before after held _ a _ read c.args.front.now h input whole _ _ c.in-Some.end
    (subst (λ (l : List ℕ). DoesLine (Some c.in-Some.end) l (g.D.Desks.view c.args.desks.now) (g.D.Desks.view c.answer_line.new.desks) (g.K.Sink.written c.args.output.now) (g.K.Sink.written c.answer_line.new.output)) c.bytes.ensures c.in-Some.ensures.line)
