-- Who covers a row, by the place of the session.
use Rattle.std.proofs.Common.{◌≡◌, ℕ, Bool, List, [], ◌∷◌, refl, ap}
use Rattle.std.specs.Prelude.{◌||◌}
use Rattle.std.specs.List.{list_any}
use Rattle.push_model.specs.declared.parts.Row.{Row}
use Rattle.push_model.specs.declared.step.Stage.{Stage}
use Rattle.push_model.specs.declared.step.Stage.TheVariants.{Reread, Nudge, Clear}
use Rattle.push_model.specs.Sessions.{Session}
use Rattle.push_model.specs.Cells.{Saver}
use Rattle.push_model.specs.Covering.{saver_covers, stage_covers}
use Rattle.shutdown_save.specs.Savers.{covers_place, tells_place}

tells_same : (x : Session) (stage : Stage) → tells_place x.node x.at stage ≡ stage_covers stage x
tells_same x Reread = refl
tells_same x (Nudge n a) = refl
tells_same x (Clear n a) = refl
tells_same x _ = refl

covers_same : (x : Session) (r : Row) (v : Saver) → covers_place x.node x.at r.message.id v ≡ saver_covers x r v
covers_same x r v = rw (tells_same x v.stage) refl

any_same : {A : Type 0} (p q : A → Bool) (same : (x : A) → p x ≡ q x) (xs : List A) → list_any p xs ≡ list_any q xs
any_same p q same [] = refl
any_same p q same (x ∷ xs) = rw (same x) (ap (λ b. q x || b) (any_same p q same xs))

-- some saver covers the row, for the session of that node and moment
pub covered_at : (n a : ℕ) (r : Row) (vs : List Saver) (x : Session) → x.node ≡ n → x.at ≡ a →
    list_any (covers_place n a r.message.id) vs ≡ list_any (saver_covers x r) vs
covered_at n a r vs x e f = rw (← e, ← f) (any_same (covers_place x.node x.at r.message.id) (saver_covers x r) (covers_same x r) vs)
