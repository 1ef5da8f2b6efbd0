-- What a part of a route did on the desks.
use Rattle.std.specs.Prelude.{◌≡◌, ℕ, Bool, true, false, List, [], ◌∷◌}
use Rattle.std.specs.List.{list_any}
use Rattle.push_model.specs.declared.mail.MailChange.TheVariants.{Post}
use Rattle.push_model.specs.declared.step.Step.{Step}
use Rattle.push_model.specs.declared.step.Step.TheVariants.{Lost}
use Rattle.push_model.specs.DeskViews.{DeskView, Calls, Made, Mails, Written, written}

-- the step says that nothing was heard of a link
abbrev pub is_loss : Step → Bool
is_loss (Lost actor) = true
is_loss _ = false

abbrev pub is_lost : Made → Bool
is_lost m = is_loss m.step

-- bits were set in mail words of the shard k
abbrev pub IsPostOn : ℕ → Written → Type 0
IsPostOn k w = (n : ℕ) × (bits : ℕ) × (w ≡ written k n (Post bits))

abbrev pub ArePostsOn : ℕ → List Written → Type 0
ArePostsOn k [] = Unit {0}
ArePostsOn k (w ∷ ws) = IsPostOn k w × ArePostsOn k ws

-- of mail nothing was done but that
abbrev pub PostsOn : DeskView → DeskView → ℕ → Type 0
PostsOn a b k = (ws : List Written) × ArePostsOn k ws × Mails a b ws

-- The own entries that came are P; where one of them is a Lost, `lost` holds; and of mail nothing was done but that bits were
-- set on the shard k.
pub record Went (a b : DeskView) (k : ℕ) (lost : Type 0) (P : List Made → Type 0) : Type 0 where
  pub entries : List Made
  pub calls : Calls a b entries
  pub are : P entries
  pub mail : PostsOn a b k
  pub losses : list_any is_lost entries ≡ true → lost
