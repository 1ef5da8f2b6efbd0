use Rattle.std.proofs.Common.{◌≡◌, ◌≤◌, true, false, refl, ◌∙◌, ap, sym, arith, Bool, ◌&&◌}
use Rattle.std.specs.Prelude.{nat_le, length}
use Rattle.push_laws.proofs.pins.unsound_actors_are_refused.Goals as goal

first : (b : Bool) → (b && true) ≡ true → b ≡ true
first true e = refl
first false e = e

pub returns-clause-late_claim : goal.returns-clause-late_claim
returns-clause-late_claim c = λ h. let k : false ≡ true = h.claims in cc

pub returns-clause-late_session : goal.returns-clause-late_session
returns-clause-late_session c = λ h. let k : false ≡ true = h.sessions in cc

pub returns-clause-late_saver : goal.returns-clause-late_saver
returns-clause-late_saver c = λ h. let k : false ≡ true = h.savers in cc

pub returns-clause-claim_and_session : goal.returns-clause-claim_and_session
returns-clause-claim_and_session c = λ h. let k : 2 ≤ 1 = h.keys 3 7 in omega (arith, k)

pub returns-clause-session_and_saver : goal.returns-clause-session_and_saver
returns-clause-session_and_saver c = λ h. let k : 2 ≤ 1 = h.keys 3 7 in omega (arith, k)

pub returns-clause-two_attached : goal.returns-clause-two_attached
returns-clause-two_attached c = λ h. let k : 2 ≤ 1 = h.attached 3 in omega (arith, k)

pub returns-clause-full_session : goal.returns-clause-full_session
returns-clause-full_session c = λ ms e h. let k : nat_le 501 500 ≡ true = ap (λ n. nat_le n 500) (sym e) ∙ first (nat_le (length ms) 500) h.session_bound in cc

pub returns-clause-full_saver : goal.returns-clause-full_saver
returns-clause-full_saver c = λ ms e h. let k : nat_le 501 500 ≡ true = ap (λ n. nat_le n 500) (sym e) ∙ first (nat_le (length ms) 500) h.saver_bound in cc

pub returns-clause-past_saving : goal.returns-clause-past_saving
returns-clause-past_saving c = λ h. let k : false ≡ true = h.saving in cc

pub returns-clause-stored : goal.returns-clause-stored
returns-clause-stored c = λ h. let k : false ≡ true = h.storable in cc

pub returns-clause-told : goal.returns-clause-told
returns-clause-told c = refl

pub returns-clause-late_stages : goal.returns-clause-late_stages
returns-clause-late_stages c = (refl, refl, refl, refl)
