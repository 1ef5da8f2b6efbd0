-- What the calls of a chat do to what it tells, and to its counts.
use Rattle.std.specs.Prelude.{◌≡◌, ℕ, ◌≤◌, List, [], ◌∷◌, ◌++◌, Option, Some, None, length}
use Rattle.push_outside.specs.Counts.{next_count, Rose}
use Rattle.push_outside.specs.declared.chat.Item.{Item}
use Rattle.push_outside.specs.declared.chat.Item.TheVariants.{Text as TextItem, Binary as BinaryItem, TooLong as LongItem}
use Rattle.push_outside.specs.declared.chat.Heard.{Heard}
use Rattle.push_outside.specs.declared.chat.Heard.TheVariants.{Text, Binary, TooLong, NotYet, End, Failed, NoMemory}
use Rattle.push_outside.specs.declared.chat.Sent.{Sent}
use Rattle.push_outside.specs.declared.chat.Sent.TheVariants.{Done, Failed as SendFailed, NoMemory as SendNoMemory}

-- ---- lists that a chat may tell

-- what is told, with more behind it
abbrev pub told_more : {A : Type 0} → Option (List A) → List A → Option (List A)
told_more None more = None
told_more (Some xs) more = Some (xs ++ more)

-- what is told, with one in front of it
abbrev pub told_before : {A : Type 0} → A → Option (List A) → Option (List A)
told_before x None = None
told_before x (Some xs) = Some (x ∷ xs)

-- nothing is left, where that is told
abbrev pub IsSpent : {A : Type 0} → Option (List A) → Type 0
IsSpent None = Unit {0}
IsSpent (Some xs) = xs ≡ []

-- ---- takes

-- how many bytes a text may have
abbrev pub text_limit : ℕ
text_limit = 16384

-- a take gives the first item that is left; the end comes only where none is
abbrev pub Takes : Heard → Option (List Item) → Option (List Item) → Type 0
Takes (Text t) before after = before ≡ told_before (TextItem t) after
Takes Binary before after = before ≡ told_before BinaryItem after
Takes TooLong before after = before ≡ told_before LongItem after
Takes NotYet before after = after ≡ before
Takes End before after = (after ≡ before) × IsSpent before
Takes Failed before after = after ≡ before
Takes NoMemory before after = after ≡ before

-- a text that is heard keeps the limit
abbrev pub IsShort : Heard → Type 0
IsShort (Text t) = length t ≤ text_limit
IsShort Binary = Unit {0}
IsShort TooLong = Unit {0}
IsShort NotYet = Unit {0}
IsShort End = Unit {0}
IsShort Failed = Unit {0}
IsShort NoMemory = Unit {0}

-- the texts of an answer
abbrev pub heard_texts : Heard → List (List ℕ)
heard_texts (Text t) = t ∷ []
heard_texts Binary = []
heard_texts TooLong = []
heard_texts NotYet = []
heard_texts End = []
heard_texts Failed = []
heard_texts NoMemory = []

-- the lulls in a row after this answer
abbrev pub lulls_after_take : Heard → ℕ → ℕ
lulls_after_take (Text t) lulls = 0
lulls_after_take Binary lulls = 0
lulls_after_take TooLong lulls = 0
lulls_after_take NotYet lulls = next_count lulls
lulls_after_take End lulls = 0
lulls_after_take Failed lulls = 0
lulls_after_take NoMemory lulls = 0

-- a failure raised the count of faults, which does not fall; any other answer leaves it as it was
abbrev pub TakeFails : Heard → ℕ → ℕ → Type 0
TakeFails (Text t) before after = after ≡ before
TakeFails Binary before after = after ≡ before
TakeFails TooLong before after = after ≡ before
TakeFails NotYet before after = after ≡ before
TakeFails End before after = after ≡ before
TakeFails Failed before after = (before ≤ after) × Rose before after
TakeFails NoMemory before after = after ≡ before

-- ---- sends

-- the texts that a send of this text adds
abbrev pub sent_texts : Sent → List ℕ → List (List ℕ)
sent_texts Done text = text ∷ []
sent_texts SendFailed text = []
sent_texts SendNoMemory text = []

-- a failure raised the count of faults, which does not fall; any other answer leaves it as it was
abbrev pub SendFails : Sent → ℕ → ℕ → Type 0
SendFails Done before after = after ≡ before
SendFails SendFailed before after = (before ≤ after) × Rose before after
SendFails SendNoMemory before after = after ≡ before
