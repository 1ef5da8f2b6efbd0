use Rattle.std.proofs.Common.{◌≡◌, ◌≤◌, true, false, arith}
use Rattle.push_model.specs.Pins.{token_one}
use Rattle.push_laws.proofs.pins.unsound_worlds_are_refused.Goals as goal

pub returns-clause-tokens : goal.returns-clause-tokens
returns-clause-tokens c = λ h. let k : 2 ≤ 1 = h.tokens token_one in omega (arith, k)

pub returns-clause-names : goal.returns-clause-names
returns-clause-names c = λ h. let k : 2 ≤ 1 = h.ops (record { pass = 1; k = 1 }) in omega (arith, k)

pub returns-clause-messages : goal.returns-clause-messages
returns-clause-messages c = λ h. let k : 2 ≤ 1 = h.messages 5 in omega (arith, k)

pub returns-clause-key : goal.returns-clause-key
returns-clause-key c = λ h. let k : 2 ≡ 1 = h.keys.0 in omega (arith, k)

pub returns-clause-number : goal.returns-clause-number
returns-clause-number c = λ h. let k : false ≡ true = h.numbers in cc

pub returns-clause-rows : goal.returns-clause-rows
returns-clause-rows c = λ h. let k : false ≡ true = h.cells.0.registered in cc
