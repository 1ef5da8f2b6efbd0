-- A desk that is new, and what is made at it.
use Rattle.std.proofs.Common.{◌≡◌, ℕ, ◌<◌, ◌==◌, Bool, true, false, cond, List, [], ◌∷◌, refl, ap, ◌∙◌}
use Rattle.std.specs.Prelude.{Result, Ok, Err, IfOk, OnErr, filter}
use Rattle.push_model.specs.declared.entry.Entry.{Entry}
use Rattle.push_model.specs.declared.entry.NoMemory.{NoMemory}
use Rattle.push_model.specs.declared.reply.Reply.{Reply}
use Rattle.push_model.specs.declared.step.Step.{Step}
use Rattle.push_model.specs.DeskViews.{Calls, DeskView, IsHonest, Made, made, own_entries}
use Rattle.lone_desk.specs.declared.notes.Notes.{Notes}
use Rattle.push_model.specs.Reached.{IsReached}
use Rattle.push_model.specs.Worlds.{World, start}
use Rattle.lone_desk.specs.Notes.{fresh}
use Rattle.lone_desk.specs.LoneViews.{lone_view}
use Rattle.http_front.specs.OpNumbers.{AreMadeBelow, IsAbove, IsBelow}

none_kept : {A : Type 0} (p : A → Bool) (b : Bool) (xs : List A) → xs ≡ [] → filter p (cond b xs []) ≡ []
none_kept p true xs e = ap (filter p) e
none_kept p false xs e = refl

pub own_none : (d : Notes) → d.seen ≡ [] → (k : ℕ) → own_entries (lone_view d) k ≡ []
own_none d e k = none_kept (λ (y : Entry Step Reply). y.by == 0) (k == 0) d.seen e

-- a step that was made, or for which memory was wanted
pub record Tried (a b : DeskView) : Type 0 where
  pub entries : List Made
  pub calls : Calls a b entries
  pub below : AreMadeBelow 0 entries

pub tried : (a b : DeskView) (asked : Step) (result : Result Reply NoMemory) → IsBelow 0 asked → IfOk result (λ reply. Calls a b (made 0 asked reply ∷ [])) → OnErr result (Calls a b []) → Tried a b
tried a b asked (Ok reply) q h k = record { entries = made 0 asked reply ∷ []; calls = h; below = (q, tt) }
tried a b asked (Err e) q h k = record { entries = []; calls = k; below = tt }

-- ---- a new desk

pub new_honest : (result : Result Notes NoMemory) (w : World) → IsReached w → IfOk result (λ d. IsReached w → IsHonest (lone_view d)) → IfOk result (λ d. IsHonest (lone_view d))
new_honest (Ok d) w r h = h r
new_honest (Err e) w r h = tt

abbrev AboveAtStart : Type 0
AboveAtStart =
    (v : DeskView) (n : ℕ) → ((k : ℕ) → k < v.size → own_entries v k ≡ []) → ((k : ℕ) → k < v.size → (number : ℕ) × (next : ℕ) × (v.opened k ≡ start number next)) → IsAbove v n

pub new_above : AboveAtStart → (result : Result Notes NoMemory) (w : World) (next : ℕ) → w ≡ start 0 next → IfOk result (λ d. d ≡ fresh w) → IfOk result (λ d. (n : ℕ) → IsAbove (lone_view d) n)
new_above law (Ok d) w next e h = λ n. law (lone_view d) n (λ k low. own_none d (ap (λ z. z.seen) h) k) (λ k low. (0, next, ap (λ z. z.first) h ∙ e))
new_above law (Err f) w next e h = tt
