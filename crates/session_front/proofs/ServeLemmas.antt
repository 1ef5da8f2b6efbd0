-- Pump after pump.
use Rattle.std.proofs.Common.{◌≡◌, ◌+◌, ◌<◌, ℕ, List, [], ◌∷◌, ◌++◌, length, refl, ap, sym, ◌∙◌, subst, Option, Some, None}
use Rattle.std.proofs.lemmas.List.{length_push}
use Rattle.session_drive.specs.declared.ends.SessionEnd.{SessionEnd}
use Rattle.session_front.specs.declared.live.Place.{Place}
use Rattle.session_front.specs.declared.live.Pumped.{Pumped}
use Rattle.session_front.specs.declared.live.Pumped.TheVariants.{Moved, Idle, Done}
use Rattle.session_front.specs.declared.live.SessionServed.TheVariants.{Done as IsDone, Paused}
use Rattle.session_front.specs.Served.{Pause, Pumps, RunsOver, ServedBy, ended}

-- so many pumps were made, and none was the end
pub record PumpedSoFar (place : Place) (moment : Option ℕ) (n : ℕ) (x y : Pause) : Type 0 where
  pub between : List Pause
  pub count : length between ≡ n
  pub runs : RunsOver place moment x between y

module _ (place : Place) (moment : Option ℕ) where
  pub none_yet : (x : Pause) → PumpedSoFar place moment 0 x x
  none_yet x = record { between = []; count = refl; runs = refl }

  runs_more : (x y z : Pause) (zs : List Pause) (r : Pumped) → ended r ≡ None → RunsOver place moment x zs y → Pumps place moment r y z → RunsOver place moment x (zs ++ z ∷ []) z
  runs_more x y z [] r e h p = ((r, e, subst (λ (w : Pause). Pumps place moment r w z) h p), refl)
  runs_more x y z (w ∷ zs) r e h p = (h.0, runs_more w y z zs r e h.1 p)

  pub one_more : (n : ℕ) (x y z : Pause) (r : Pumped) → ended r ≡ None → PumpedSoFar place moment n x y → Pumps place moment r y z → PumpedSoFar place moment (n + 1) x z
  one_more n x y z r e so p = record { between = so.between ++ z ∷ []; count = length_push so.between z ∙ ap (λ m. m + 1) so.count; runs = runs_more x y z so.between r e so.runs p }

  is_done : (r : Pumped) (e : SessionEnd) → ended r ≡ Some e → r ≡ Done e
  is_done (Done f) e h = cc
  is_done Moved e h = cc
  is_done Idle e h = cc

  pub done_at : (n turns : ℕ) (x y z : Pause) (r : Pumped) (e : SessionEnd) → n < turns → ended r ≡ Some e → PumpedSoFar place moment n x y → Pumps place moment r y z → ServedBy place moment turns (IsDone e) x z
  done_at n turns x y z r e low h so p = (so.between, rw so.count low, (y, so.runs, subst (λ (q : Pumped). Pumps place moment q y z) (is_done r e h) p))

  pub paused_at : (n turns : ℕ) (x y : Pause) → n ≡ turns → PumpedSoFar place moment n x y → ServedBy place moment turns Paused x y
  paused_at n turns x y e so = (so.between, so.count ∙ e, so.runs)
