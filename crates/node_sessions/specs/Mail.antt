-- What the loop does with the mail of its node.
use Rattle.std.specs.Prelude.{◌≡◌, ℕ, zero, suc, List, [], ◌∷◌, map}
use Rattle.push_model.specs.DeskViews.{DeskView, Calls, MailEndsWith, Mails, written}
use Rattle.push_model.specs.declared.mail.MailChange.TheVariants.{Taken}
use Rattle.node_sessions.specs.Seats.{SeatView, told}

-- All bits of the shard k were taken, which are those that were out; the sessions whose users they name are due by now, and nothing
-- else changed.
pub record ShardRead (node k : ℕ) (a b : DeskView) (xs ys : List SeatView) : Type 0 where
  pub bits : ℕ
  pub calls : Calls a b []
  pub mail : Mails a b (written k node (Taken bits) ∷ [])
  pub last : MailEndsWith a b k node (Taken bits)
  pub seats : ys ≡ map (told a.size k bits) xs

-- the same of each of the first shards, in order
abbrev pub MailRead : ℕ → ℕ → DeskView → DeskView → List SeatView → List SeatView → Type 0
MailRead node zero a b xs ys = (b ≡ a) × (ys ≡ xs)
MailRead node (suc k) a c xs zs = (b : DeskView) × (ys : List SeatView) × MailRead node k a b xs ys × ShardRead node k b c ys zs
