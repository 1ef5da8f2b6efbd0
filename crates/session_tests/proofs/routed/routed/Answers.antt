use Rattle.std.proofs.Common.{[], ◌∷◌, refl}
use Rattle.push_model.specs.declared.ids.Token.{Token}
use Rattle.session_tests.proofs.ReadyLemmas.{ready_fresh}
use Rattle.session_tests.proofs.routed.routed.Goals as goal

-- the token of the channel
abbrev token : Token
token = record { 0 = 1 ∷ 17 ∷ 18 ∷ 19 ∷ 20 ∷ 21 ∷ 22 ∷ 23 ∷ 24 ∷ 25 ∷ 26 ∷ 27 ∷ 28 ∷ 29 ∷ 30 ∷ 31 ∷ 32 ∷ 33 ∷ 34 ∷ 35 ∷ 36 ∷ 37 ∷ 38 ∷ 39 ∷ [] }

pub route-requires-clause-fresh : goal.route-requires-clause-fresh
route-requires-clause-fresh g c = ready_fresh (g.D.Desks.view c.args.desks.now) c.args.op token c.requires.ready c.requires.signs refl
