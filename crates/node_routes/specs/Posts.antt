-- What a link writes to mail words: bits of users that were found.
use Rattle.std.specs.Prelude.{◌≡◌, ℕ, List, [], ◌∷◌, true}
use Rattle.push_model.specs.declared.mail.MailChange.TheVariants.{Post}
use Rattle.push_model.specs.declared.step.Step.{Step}
use Rattle.push_model.specs.declared.reply.Reply.{Reply}
use Rattle.push_model.specs.declared.reply.Reply.TheVariants.{Here}
use Rattle.push_model.specs.Kinds.{takes_memory}
use Rattle.push_model.specs.MailWords.{bit_of}
use Rattle.push_model.specs.DeskViews.{DeskView, Calls, MailEndsWith, Mails, Written, written}
use Rattle.node_routes.specs.declared.link.Linked.{Linked}
use Rattle.node_routes.specs.declared.link.Linked.TheVariants.{Here as LinkedHere, NotHere as LinkedNotHere, Lost as LinkedLost, NoMemory as LinkedNoMemory}
use Rattle.node_routes.specs.Links.{Makes, answer_of}

-- ---- any link

-- bits were set in the mail word of the shard k and the node n
abbrev pub IsPost : ℕ → ℕ → Written → Type 0
IsPost k n w = (bits : ℕ) × (w ≡ written k n (Post bits))

abbrev pub ArePosts : ℕ → ℕ → List Written → Type 0
ArePosts k n [] = Unit {0}
ArePosts k n (w ∷ ws) = IsPost k n w × ArePosts k n ws

-- Of mail nothing was done but that bits were set for the node n on the shard k.
abbrev pub OnlyPosts : DeskView → DeskView → ℕ → ℕ → Type 0
OnlyPosts a b k n = (ws : List Written) × ArePosts k n ws × Mails a b ws

-- ---- a link that makes its steps on the same desks

-- what a reply posts: the bit of the user whose session was found
abbrev pub posts_of : ℕ → ℕ → Reply → List Written
posts_of k n (Here u) = written k n (Post (bit_of u)) ∷ []
posts_of k n _ = []

-- that post is the last that is seen of its mail word
abbrev pub PostEnds : DeskView → DeskView → ℕ → ℕ → Reply → Type 0
PostEnds a b k n (Here u) = MailEndsWith a b k n (Post (bit_of u))
PostEnds a b k n _ = Unit {0}

-- The step x was made on the shard k, and after that what its reply r posts was posted for the node n. Nothing else was done.
pub record MakesThenPosts (a b : DeskView) (k n : ℕ) (x : Step) (r : Reply) : Type 0 where
  pub between : DeskView
  pub makes : Makes a between k x r
  pub silent : Mails a between []
  pub still : Calls between b []
  pub posts : Mails between b (posts_of k n r)
  pub last : PostEnds between b k n r

-- its answer is what the reply says
abbrev pub SaysHere : DeskView → DeskView → ℕ → ℕ → Step → Linked → Type 0
SaysHere a b k n x answer = (r : Reply) × (answer_of r ≡ answer) × MakesThenPosts a b k n x r

-- It is never lost, and where the step, which may want memory, isn't made for want of it nothing is done.
abbrev pub LinksHere : DeskView → DeskView → ℕ → ℕ → Step → Linked → Type 0
LinksHere a b k n x LinkedHere = SaysHere a b k n x LinkedHere
LinksHere a b k n x LinkedNotHere = SaysHere a b k n x LinkedNotHere
LinksHere a b k n x LinkedLost = ⊥
LinksHere a b k n x LinkedNoMemory = Calls a b [] × Mails a b [] × (takes_memory x ≡ true)
