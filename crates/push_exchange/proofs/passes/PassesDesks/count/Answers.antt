use Rattle.std.proofs.Common.{◌≡◌, ◌∙◌, ap, inr, arith, rules, length}
use Rattle.push_exchange.proofs.passes.PassesDesks.count.Goals as goal

pub overflow_cast-result : goal.overflow_cast-result
overflow_cast-result g c =
    let w = c.self.invariant.wide in let o = c.self.inside.passes.ok.0 in let l = c.len.ensures in
    let is : c.len.result ≡ 16 = omega arith in search rules

pub returns-clause-value : goal.returns-clause-value
returns-clause-value g c = c.len.ensures ∙ (c.self.inside.passes.ok.0 ∙ ap length c.self.view_is)

pub returns-clause-either : goal.returns-clause-either
returns-clause-either g c = inr (c.len.ensures ∙ (c.self.inside.passes.ok.0 ∙ c.self.invariant.wide))
