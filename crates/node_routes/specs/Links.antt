-- What a link did on the desks that it was given, by what it answered.
use Rattle.std.specs.Prelude.{◌≡◌, ◌⊎◌, ℕ, ◌≤◌, [], ◌∷◌, true}
use Rattle.push_model.specs.declared.step.Stage.{Stage}
use Rattle.push_model.specs.declared.step.Stage.TheVariants.{Told, ToldNudge}
use Rattle.push_model.specs.declared.step.Step.{Step}
use Rattle.push_model.specs.declared.reply.Reply.{Reply}
use Rattle.push_model.specs.declared.reply.Reply.TheVariants.{Here, Stage as StageIs}
use Rattle.push_model.specs.Kinds.{takes_memory}
use Rattle.push_model.specs.Replies.{replies_to}
use Rattle.push_model.specs.Worlds.{start}
use Rattle.push_model.specs.Accounting.{IsAccounted}
use Rattle.push_model.specs.Caring.{is_cared}
use Rattle.push_model.specs.DeskViews.{DeskView, Calls, EndsWith, made, world_at}
use Rattle.push_outside.specs.Counts.{Rose}
use Rattle.node_routes.specs.declared.link.Linked.{Linked}
use Rattle.node_routes.specs.declared.link.Linked.TheVariants.{Here as LinkedHere, NotHere as LinkedNotHere, Lost as LinkedLost, NoMemory as LinkedNoMemory}

-- ---- a step that was made

-- The step x was made on the shard k, with the reply r, and no other own step was. What is seen there by now is accounted
-- for, where the shard began without users, and leaves a world that is cared for.
pub record Makes (a b : DeskView) (k : ℕ) (x : Step) (r : Reply) : Type 0 where
  pub calls : Calls a b (made k x r ∷ [])
  pub last : EndsWith a b k x r
  pub fits : replies_to x r ≡ true
  pub accounted : (number next : ℕ) → b.opened k ≡ start number next → IsAccounted (start number next) (b.seen k)
  pub cared : is_cared (world_at b k) ≡ true

-- ---- what a reply says of the session that was asked for

-- the stage that a step met tells what another pass was told of it before
abbrev pub answer_at : Stage → Linked
answer_at (Told true) = LinkedHere
answer_at (ToldNudge true n a) = LinkedHere
answer_at _ = LinkedNotHere

-- the session was found, or it wasn't
abbrev pub answer_of : Reply → Linked
answer_of (Here u) = LinkedHere
answer_of (StageIs s) = answer_at s
answer_of _ = LinkedNotHere

-- ---- links

-- The step x was made on the shard k, and its reply says this.
abbrev pub Says : DeskView → DeskView → ℕ → Step → Linked → Type 0
Says a b k x answer = (r : Reply) × (answer_of r ≡ answer) × Makes a b k x r

-- What the link did where it was asked for the step x on the shard k. Its answer is what the step's reply says; or it was
-- lost, before the step was made or after; or the step, which may want memory, wasn't made for want of it.
abbrev pub Links : DeskView → DeskView → ℕ → Step → Linked → Type 0
Links a b k x LinkedHere = Says a b k x LinkedHere
Links a b k x LinkedNotHere = Says a b k x LinkedNotHere
Links a b k x LinkedLost = Calls a b [] ⊎ ((r : Reply) × Makes a b k x r)
Links a b k x LinkedNoMemory = Calls a b [] × (takes_memory x ≡ true)

-- a link that was lost raised the count of faults; any other answer leaves it as it was
abbrev pub LinkFails : Linked → ℕ → ℕ → Type 0
LinkFails LinkedHere before after = after ≡ before
LinkFails LinkedNotHere before after = after ≡ before
LinkFails LinkedLost before after = (before ≤ after) × Rose before after
LinkFails LinkedNoMemory before after = after ≡ before
