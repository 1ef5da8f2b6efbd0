-- What one caller sees of one or more shards, and what its calls do to that.
use Rattle.std.specs.Prelude.{◌≡◌, ◌==◌, ◌<◌, ◌&&◌, ℕ, Bool, true, false, List, [], ◌∷◌, ◌++◌, filter, if◌then◌else◌}
use Rattle.std.specs.List.{list_any}
use Rattle.push_model.specs.declared.entry.Entry.{Entry}
use Rattle.push_model.specs.declared.mail.MailChange.{MailChange}
use Rattle.push_model.specs.declared.mail.MailEntry.{MailEntry}
use Rattle.push_model.specs.declared.step.Step.{Step}
use Rattle.push_model.specs.declared.reply.Reply.{Reply}
use Rattle.push_model.specs.Worlds.{World}
use Rattle.push_model.specs.Steps.{proper, step}
use Rattle.push_model.specs.Histories.{IsLegal, AllProper, entry, world_after}
use Rattle.push_model.specs.Reached.{IsReached}
use Rattle.push_model.specs.MailWords.{mail_entry, out, IsFound, IsLegalMail}

-- How many shards there are. For each shard: the board that it is on, by numbers that no other board has, or by none where
-- it is on no board; the number that signs the caller's entries; which numbers are its own; the world in which the shard
-- began; and what was seen of its history. For each shard and node: what was seen of what was done to the mail word.
pub record DeskView : Type 0 where
  pub size : ℕ
  pub board : ℕ → List ℕ
  pub number : ℕ → ℕ
  pub is_own : ℕ → ℕ → Bool
  pub opened : ℕ → World
  pub seen : ℕ → List (Entry Step Reply)
  pub mail : ℕ → ℕ → List MailEntry

-- the world of the shard k after what was seen
abbrev pub world_at : DeskView → ℕ → World
world_at v k = world_after step (v.opened k) (v.seen k)

-- ---- what is the caller's own

abbrev pub own_among : {A : Type 0} → (A → ℕ) → (ℕ → Bool) → List A → List A
own_among by is_own xs = filter (λ x. is_own (by x)) xs

abbrev pub NoneOwn : {A : Type 0} → (A → ℕ) → (ℕ → Bool) → List A → Type 0
NoneOwn by is_own [] = Unit {0}
NoneOwn by is_own (x ∷ xs) = (is_own (by x) ≡ false) × NoneOwn by is_own xs

abbrev pub entry_by : Entry Step Reply → ℕ
entry_by e = e.by

abbrev pub mail_by : MailEntry → ℕ
mail_by e = e.by

-- the entries of the shard k that its own numbers sign
abbrev pub own_entries : DeskView → ℕ → List (Entry Step Reply)
own_entries v k = own_among entry_by (v.is_own k) (v.seen k)

-- and those of the mail word of the node n
abbrev pub own_mail : DeskView → ℕ → ℕ → List MailEntry
own_mail v k n = own_among mail_by (v.is_own k) (v.mail k n)

-- ---- what was made

-- a step with its reply, on a shard
pub record Made : Type 0 where
  pub shard : ℕ
  pub step : Step
  pub reply : Reply

abbrev pub made : ℕ → Step → Reply → Made
made k x r = record { shard = k; step = x; reply = r }

abbrev pub is_on : ℕ → Made → Bool
is_on k m = m.shard == k

-- the entries that these are on the shard k
abbrev pub entries_at : (ℕ → ℕ) → ℕ → List Made → List (Entry Step Reply)
entries_at number k [] = []
entries_at number k (m ∷ ms) =
    if is_on k m then entry (number k) m.step m.reply ∷ entries_at number k ms else entries_at number k ms

-- a change of the mail word of a shard and a node
pub record Written : Type 0 where
  pub shard : ℕ
  pub node : ℕ
  pub change : MailChange

abbrev pub written : ℕ → ℕ → MailChange → Written
written k n c = record { shard = k; node = n; change = c }

abbrev pub is_to : ℕ → ℕ → Written → Bool
is_to k n w = (w.shard == k) && (w.node == n)

-- what these are in the mail list of the shard k and the node n
abbrev pub written_at : (ℕ → ℕ) → ℕ → ℕ → List Written → List MailEntry
written_at number k n [] = []
written_at number k n (w ∷ ws) =
    if is_to k n w then mail_entry (number k) w.change ∷ written_at number k n ws else written_at number k n ws

-- ---- from one moment to a later one

abbrev pub IsFront : {A : Type 0} → List A → List A → Type 0
IsFront {A} xs ys = (more : List A) × (ys ≡ xs ++ more)

-- the shards are the same, on the same boards, with the same numbers
pub record IsSameDesk (a b : DeskView) : Type 0 where
  pub size : b.size ≡ a.size
  pub board : (k : ℕ) → b.board k ≡ a.board k
  pub number : (k : ℕ) → b.number k ≡ a.number k
  pub is_own : (k n : ℕ) → b.is_own k n ≡ a.is_own k n
  pub opened : (k : ℕ) → b.opened k ≡ a.opened k

-- The caller's own entries that came are these, in this order. Each seen list begins with what it was, and stays where
-- none of these is on its shard. Where it was a legal history of proper entries it is one still.
pub record Calls (a b : DeskView) (ms : List Made) : Type 0 where
  pub same : IsSameDesk a b
  pub own : (k : ℕ) → own_entries b k ≡ own_entries a k ++ entries_at a.number k ms
  pub grown : (k : ℕ) → IsFront (a.seen k) (b.seen k)
  pub others : (k : ℕ) → list_any (is_on k) ms ≡ false → b.seen k ≡ a.seen k
  pub legal : (k : ℕ) → IsLegal step (a.opened k) (a.seen k) → IsLegal step (b.opened k) (b.seen k)
  pub each_proper : (k : ℕ) → AllProper proper (a.seen k) → AllProper proper (b.seen k)

-- The same of mail: the caller's own changes that came are these, in this order.
pub record Mails (a b : DeskView) (ws : List Written) : Type 0 where
  pub same : IsSameDesk a b
  pub own : (k n : ℕ) → own_mail b k n ≡ own_mail a k n ++ written_at a.number k n ws
  pub grown : (k n : ℕ) → IsFront (a.mail k n) (b.mail k n)
  pub others : (k n : ℕ) → list_any (is_to k n) ws ≡ false → b.mail k n ≡ a.mail k n
  pub legal : (k n : ℕ) → IsLegalMail (a.mail k n) → IsLegalMail (b.mail k n)

-- ---- one call

-- On the shard k entries of others came, and then this one. What is seen there by now is a legal history, and each of its
-- entries is proper for its number.
pub record EndsWith (a b : DeskView) (k : ℕ) (x : Step) (r : Reply) : Type 0 where
  pub between : List (Entry Step Reply)
  pub seen : b.seen k ≡ (a.seen k ++ between) ++ entry (a.number k) x r ∷ []
  pub foreign : NoneOwn entry_by (a.is_own k) between
  pub legal : IsLegal step (b.opened k) (b.seen k)
  pub each_proper : AllProper proper (b.seen k)

-- The same of the mail word of the shard k and the node n. What was taken are the bits that were out.
pub record MailEndsWith (a b : DeskView) (k n : ℕ) (c : MailChange) : Type 0 where
  pub between : List MailEntry
  pub mail : b.mail k n ≡ (a.mail k n ++ between) ++ mail_entry (a.number k) c ∷ []
  pub foreign : NoneOwn mail_by (a.is_own k) between
  pub found : IsFound (out (a.mail k n ++ between)) c
  pub legal : IsLegalMail (b.mail k n)

-- ---- honest desks

-- Each shard has its number. It began in a world that a legal history leads to, and what was seen is a legal history from
-- there, each of its entries proper for its number. The number that signs is one of the own. Each mail list is legal.
pub record IsHonest (v : DeskView) : Type 0 where
  pub numbered : (k : ℕ) → k < v.size → (v.opened k).shard ≡ k
  pub opened : (k : ℕ) → IsReached (v.opened k)
  pub legal : (k : ℕ) → IsLegal step (v.opened k) (v.seen k)
  pub each_proper : (k : ℕ) → AllProper proper (v.seen k)
  pub signs : (k : ℕ) → v.is_own k (v.number k) ≡ true
  pub mail : (k n : ℕ) → IsLegalMail (v.mail k n)
