-- What the chats in memory answer, and what they leave.
use Rattle.std.specs.Prelude.{ℕ, List, [], ◌∷◌, ◌++◌, Option, Some, nat_le, length, drop, if◌then◌else◌}
use Rattle.push_outside.specs.Counts.{next_count}
use Rattle.push_outside.specs.Calls.{by_call, is_listed}
use Rattle.push_outside.specs.Chats.{text_limit, heard_texts, sent_texts, lulls_after_take}
use Rattle.push_outside.specs.declared.chat.Item.{Item}
use Rattle.push_outside.specs.declared.chat.Item.TheVariants.{Text as TextItem, Binary as BinaryItem, TooLong as LongItem}
use Rattle.push_outside.specs.declared.chat.Heard.{Heard}
use Rattle.push_outside.specs.declared.chat.Heard.TheVariants.{Text, Binary, TooLong, NotYet, End, Failed, NoMemory}
use Rattle.push_outside.specs.declared.chat.Sent.{Sent}
use Rattle.push_outside.specs.declared.chat.Sent.TheVariants.{Done, Failed as SendFailed, NoMemory as SendNoMemory}

-- a `SureChat`: the items that it has left, the texts taken and sent, and the code with which it was last ended
pub record SureChatValue : Type 0 where
  pub left : List Item
  pub taken : List (List ℕ)
  pub sent : List (List ℕ)
  pub code : Option ℕ

-- a `ListChat`: the same of it as a chat, the number of calls so far, the numbers of the calls that fail and that have
-- nothing, the number of faults so far, and of the lulls in a row
pub record ListChatValue : Type 0 where
  pub chat : SureChatValue
  pub calls : ℕ
  pub failing : List ℕ
  pub not_yet : List ℕ
  pub faults : ℕ
  pub lulls : ℕ

-- an item as it is taken: a text over the limit is too long
abbrev pub item_taken : Item → Item
item_taken (TextItem t) = if nat_le (length t) text_limit then TextItem t else LongItem
item_taken BinaryItem = BinaryItem
item_taken LongItem = LongItem

-- what is heard of an item
abbrev pub heard_of : Item → Heard
heard_of (TextItem t) = if nat_le (length t) text_limit then Text t else TooLong
heard_of BinaryItem = Binary
heard_of LongItem = TooLong

-- what is heard next, where there is memory
abbrev pub next_heard : List Item → Heard
next_heard [] = End
next_heard (item ∷ items) = heard_of item

-- a usual take gives what is next, unless it found no memory
abbrev pub usual_take : Heard → List Item → Heard
usual_take NoMemory items = NoMemory
usual_take (Text t) items = next_heard items
usual_take Binary items = next_heard items
usual_take TooLong items = next_heard items
usual_take NotYet items = next_heard items
usual_take End items = next_heard items
usual_take Failed items = next_heard items

-- the items left after an answer
abbrev pub items_after : Heard → List Item → List Item
items_after (Text t) items = drop 1 items
items_after Binary items = drop 1 items
items_after TooLong items = drop 1 items
items_after NotYet items = items
items_after End items = items
items_after Failed items = items
items_after NoMemory items = items

-- the chat after a take with that answer
abbrev pub after_take : SureChatValue → Heard → SureChatValue
after_take c heard = record { left = items_after heard c.left; taken = c.taken ++ heard_texts heard; sent = c.sent; code = c.code }

-- a usual send is done, unless it found no memory
abbrev pub usual_send : Sent → Sent
usual_send Done = Done
usual_send SendFailed = Done
usual_send SendNoMemory = SendNoMemory

-- the chat after a send of that text with that answer
abbrev pub after_send : SureChatValue → Sent → List ℕ → SureChatValue
after_send c answer text = record { left = c.left; taken = c.taken; sent = c.sent ++ sent_texts answer text; code = c.code }

-- the chat after it was ended with that code
abbrev pub after_finish : SureChatValue → ℕ → SureChatValue
after_finish c number = record { left = c.left; taken = c.taken; sent = c.sent; code = Some number }

-- ---- calls by number

-- the faults after an answer, where a failure is one fault and nothing else is
abbrev pub faults_after_take : Heard → ℕ → ℕ
faults_after_take Failed faults = next_count faults
faults_after_take (Text t) faults = faults
faults_after_take Binary faults = faults
faults_after_take TooLong faults = faults
faults_after_take NotYet faults = faults
faults_after_take End faults = faults
faults_after_take NoMemory faults = faults

abbrev pub faults_after_send : Sent → ℕ → ℕ
faults_after_send SendFailed faults = next_count faults
faults_after_send Done faults = faults
faults_after_send SendNoMemory faults = faults

-- the answer of the next call, a take, where a usual one answered `heard`
abbrev pub list_take : ListChatValue → Heard → Heard
list_take c heard = by_call c.failing c.not_yet (next_count c.calls) Failed NotYet (usual_take heard c.chat.left)

-- the answer of the next call, where it is none that may wait and a usual one answered `answer`
abbrev pub list_send : ListChatValue → Sent → Sent
list_send c answer = if is_listed c.failing (next_count c.calls) then SendFailed else usual_send answer

-- the chat after its next call, which left that of it as a chat, and these counts
abbrev pub after_call : ListChatValue → SureChatValue → ℕ → ℕ → ListChatValue
after_call c chat faults lulls =
    record { chat = chat; calls = next_count c.calls; failing = c.failing; not_yet = c.not_yet; faults = faults; lulls = lulls }

abbrev pub after_list_take : ListChatValue → Heard → ListChatValue
after_list_take c heard = after_call c (after_take c.chat heard) (faults_after_take heard c.faults) (lulls_after_take heard c.lulls)

abbrev pub after_list_send : ListChatValue → Sent → List ℕ → ListChatValue
after_list_send c answer text = after_call c (after_send c.chat answer text) (faults_after_send answer c.faults) 0

abbrev pub after_list_finish : ListChatValue → Sent → ℕ → ListChatValue
after_list_finish c answer number = after_call c (after_finish c.chat number) (faults_after_send answer c.faults) 0
