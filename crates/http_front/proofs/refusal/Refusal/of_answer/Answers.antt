use Rattle.std.proofs.Common.{sym, subst}
use Rattle.std.specs.Prelude.{IfErr, ℕ, Result}
use Rattle.push_model.specs.declared.ids.MsgId.{MsgId}
use Rattle.http_front.specs.declared.refusal.Refusal.{Refusal}
use Rattle.http_front.specs.Rows.{IsTellable}
use Rattle.http_front.proofs.FrontLemmas.{answer_tellable}
use Rattle.http_front.proofs.refusal.Refusal.of_answer.Goals as goal

pub returns-clause-tellable : goal.returns-clause-tellable
returns-clause-tellable c = subst (λ (o : Result (MsgId × ℕ) Refusal). IfErr o IsTellable) (sym c.answer_row.ensures) (answer_tellable c.args.answer)
