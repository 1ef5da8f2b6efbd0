-- What was done at some desks: entries of the caller's own, and what they post.
use Rattle.std.specs.Prelude.{◌≡◌, ℕ, List, [], ◌∷◌, ◌++◌}
use Rattle.push_model.specs.MailWords.{bit_of}
use Rattle.push_model.specs.DeskViews.{DeskView, Calls, Made, Mails, Written, written}
use Rattle.push_model.specs.declared.mail.MailChange.TheVariants.{Post}
use Rattle.push_model.specs.declared.step.Step.{Step}
use Rattle.push_model.specs.declared.step.Step.TheVariants.{Notif}
use Rattle.push_model.specs.declared.reply.Reply.{Reply}
use Rattle.push_model.specs.declared.reply.Reply.TheVariants.{Here}

-- these steps were made on the shard k, in this order
abbrev pub AreMade : ℕ → List Step → List Made → Type 0
AreMade k [] [] = Unit {0}
AreMade k [] (m ∷ ms) = ⊥
AreMade k (x ∷ xs) [] = ⊥
AreMade k (x ∷ xs) (m ∷ ms) = (m.shard ≡ k) × (m.step ≡ x) × AreMade k xs ms

-- ---- mail

-- a Notif that found the user's session posts the user's bit to the session's node
abbrev pub posts_of : ℕ → Step → Reply → List Written
posts_of k (Notif n u) (Here v) = written k n (Post (bit_of u)) ∷ []
posts_of k x r = []

abbrev pub all_posts : List Made → List Written
all_posts [] = []
all_posts (m ∷ ms) = posts_of m.shard m.step m.reply ++ all_posts ms

-- ---- both

-- The caller's own entries that came are these, in this order, and of mail nothing was done but what they post.
pub record Does (a b : DeskView) (ms : List Made) : Type 0 where
  pub calls : Calls a b ms
  pub mail : Mails a b (all_posts ms)
