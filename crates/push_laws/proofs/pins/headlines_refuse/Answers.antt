use Rattle.std.proofs.Common.{◌≡◌, ℕ, true, false, inl, inr, [], refl, ◌∙◌, ap, sym}
use Rattle.std.specs.Prelude.{Option, Some, None, nat_lt}
use Rattle.std.specs.List.{list_any}
use Rattle.push_model.specs.MessageValue.{MessageValue}
use Rattle.push_model.specs.Pools.{Taken, IsAt, taken_at}
use Rattle.push_model.specs.Images.{is_stored_or_held}
use Rattle.push_model.specs.Worlds.{World}
use Rattle.push_laws.specs.Headline.{IsWhere}
use Rattle.push_laws.proofs.pins.headlines_refuse.Goals as goal

nowhere : (w : World) (n : ℕ) (t : Taken) → t.left ≡ None → w.cells ≡ [] → IsWhere w n t → ⊥
nowhere w n t l e (inl h) = let k : false ≡ true = sym (ap (λ cells. list_any (λ e. is_stored_or_held n e.1) cells) e) ∙ h in cc
nowhere w n t l e (inr r) = cc

accepted : (m : MessageValue) (o : Option Taken) (t : Taken) → IsAt o (λ x. x.message ≡ m) → o ≡ Some t → t.message ≡ m
accepted m None t h e = cc
accepted m (Some x) t h e = let q : x ≡ t = cc in sym (ap (λ z. z.message) q) ∙ h

untaken : (m : MessageValue) (o : Option Taken) → o ≡ None → IsAt o (λ x. x.message ≡ m) → ⊥
untaken m None e h = h
untaken m (Some x) e h = cc

pub returns-clause-promised : goal.returns-clause-promised
returns-clause-promised c = λ w n t a l f e p. nowhere w n t f e (p a (ap (nat_lt 0) l))

pub returns-clause-accepted : goal.returns-clause-accepted
returns-clause-accepted c = λ p m t h e. accepted m (taken_at m.id.number p) t h e

pub returns-clause-untaken : goal.returns-clause-untaken
returns-clause-untaken c = λ p m e h. untaken m (taken_at m.id.number p) e h

pub returns-clause-shown : goal.returns-clause-shown
returns-clause-shown c = λ by w p x m h. h.0.0

pub returns-clause-pooled : goal.returns-clause-pooled
returns-clause-pooled c = λ p w e. refl

pub returns-clause-of_taken : goal.returns-clause-of_taken
returns-clause-of_taken c = λ w n t h. h
