use Rattle.std.proofs.Common.{◌≡◌, ◌≤◌, true, false, refl, arith}
use Rattle.push_model.specs.Pins.{id_of, topical}
use Rattle.push_laws.proofs.pins.unsound_rows_are_refused.Goals as goal

pub returns-clause-due : goal.returns-clause-due
returns-clause-due c = λ h. let k : false ≡ true = h.lasting in cc

pub returns-clause-timely : goal.returns-clause-timely
returns-clause-timely c = refl

pub returns-clause-no_ttl : goal.returns-clause-no_ttl
returns-clause-no_ttl c = λ h. let k : false ≡ true = h.lasting in cc

pub returns-clause-twice : goal.returns-clause-twice
returns-clause-twice c = λ h. let k : 2 ≤ 1 = h.rows (id_of 5) in omega (arith, k)

pub returns-clause-one_topic : goal.returns-clause-one_topic
returns-clause-one_topic c = λ h. let k : 2 ≤ 1 = h.topics (topical 5) in omega (arith, k)

pub returns-clause-no_channel : goal.returns-clause-no_channel
returns-clause-no_channel c = λ h. let k : false ≡ true = h.registered in cc
