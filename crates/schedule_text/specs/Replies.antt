-- The line of each reply, with its LF.
use Rattle.std.specs.Prelude.{◌≡◌, ℕ, List, [], ◌∷◌, ◌++◌, codes, decimal, Option, Some, None}
use Rattle.std.specs.List.{flat_map}
use Rattle.push_model.specs.declared.ids.Uaid.{Uaid}
use Rattle.push_model.specs.declared.reply.AckedFrom.{AckedFrom}
use Rattle.push_model.specs.declared.reply.AckedFrom.TheVariants.{Direct as FromDirect, Stored as FromStored}
use Rattle.push_model.specs.declared.reply.Reason.{Reason}
use Rattle.push_model.specs.declared.reply.Reason.TheVariants.{Channel, Zero, Expired, Replaced}
use Rattle.push_model.specs.declared.reply.Reply.{Reply}
use Rattle.push_model.specs.declared.reply.Reply.TheVariants.{Made, Taken, NotClaimed, NodeDown, Outrun, Attached, Endpoint, TokenTaken, NoSession, NoFlight, Stage as StageIs, NoToken, IdsSpent, Begun, Here, NotHere, Stored, Names, End, Moved, Due, NotDue, Page, Acked, Unknown, Counts as CountsAre, Done, NoUser, Stale, Claimed, Renewed, Kept, Cleared, Saving as SavingIs, Saved, Left, AllSaved, Dropped, Killed, Users as UsersAre}
use Rattle.push_model.specs.declared.step.Stage.{Stage}
use Rattle.push_model.specs.declared.step.Stage.TheVariants.{Direct, Told, Store, Reread, Nudge, ToldNudge, Clear, Saving, Idle, Topic, Plain, Displaced}
use Rattle.push_model.specs.MessageValue.{MessageValue}
use Rattle.schedule_text.specs.Words.{word, hex, token_word, payload_word}

abbrev pub lf : List ℕ
lf = 10 ∷ []

-- a dot for none
abbrev pub or_dot : Option ℕ → List ℕ
or_dot None = codes "."
or_dot (Some n) = decimal n

abbrev pub stage_word : Stage → List ℕ
stage_word (Direct n a) = codes "direct"
stage_word (Told given) = codes "told"
stage_word Store = codes "store"
stage_word Reread = codes "reread"
stage_word (Nudge n a) = codes "nudge"
stage_word (ToldNudge given n a) = codes "toldnudge"
stage_word (Clear n a) = codes "clear"
stage_word Saving = codes "saving"
stage_word Idle = codes "idle"
stage_word Topic = codes "topic"
stage_word Plain = codes "plain"
stage_word Displaced = codes "displaced"

abbrev pub list_word : AckedFrom → List ℕ
list_word FromDirect = codes "direct"
list_word FromStored = codes "stored"

abbrev pub reason_word : Reason → List ℕ
reason_word Channel = codes "channel"
reason_word Zero = codes "zero"
reason_word Expired = codes "expired"
reason_word Replaced = codes "replaced"

-- a node and a moment, or a dot for none
abbrev pub place_words : Option (ℕ × ℕ) → List ℕ
place_words None = word (codes ".")
place_words (Some p) = word (decimal p.0) ++ word (decimal p.1)

-- the number of its id, its channel and its payload
abbrev pub message_word : MessageValue → List ℕ
message_word m = decimal m.id.number ++ (58 ∷ (hex m.chid.0 ++ (58 ∷ payload_word m.ask.payload)))

-- a user, and the node and the moment of its route row
abbrev pub user_word : Uaid × Option ℕ × ℕ → List ℕ
user_word u = hex u.0.0 ++ (58 ∷ (or_dot u.1 ++ (58 ∷ decimal u.2)))

abbrev pub reply_line : Reply → List ℕ
reply_line Made = codes "made\n"
reply_line Taken = codes "taken\n"
reply_line NotClaimed = codes "notclaimed\n"
reply_line NodeDown = codes "nodedown\n"
reply_line (Outrun a) = codes "outrun" ++ (word (decimal a) ++ lf)
reply_line (Attached displaced) = codes "attached" ++ (word (or_dot displaced) ++ lf)
reply_line (Endpoint t) = codes "endpoint" ++ (word (token_word t) ++ lf)
reply_line TokenTaken = codes "tokentaken\n"
reply_line NoSession = codes "nosession\n"
reply_line NoFlight = codes "noflight\n"
reply_line (StageIs stage) = codes "stage" ++ (word (stage_word stage) ++ lf)
reply_line NoToken = codes "notoken\n"
reply_line IdsSpent = codes "idsspent\n"
reply_line (Begun i place) = codes "begun" ++ (word (decimal i.number) ++ (place_words place ++ lf))
reply_line (Here u) = codes "here\n"
reply_line NotHere = codes "nothere\n"
reply_line Stored = codes "stored\n"
reply_line (Names n a) = codes "names" ++ (word (decimal n) ++ (word (decimal a) ++ lf))
reply_line (End code) = codes "end" ++ (word (decimal code) ++ lf)
reply_line (Moved stage) = codes "moved" ++ (word (stage_word stage) ++ lf)
reply_line Due = codes "due\n"
reply_line NotDue = codes "notdue\n"
reply_line (Page messages) = codes "page" ++ (flat_map (λ m. word (message_word m)) messages ++ lf)
reply_line (Acked from) = codes "acked" ++ (word (list_word from) ++ lf)
reply_line Unknown = codes "unknown\n"
reply_line Done = codes "done\n"
reply_line NoUser = codes "nouser\n"
reply_line (Stale a) = codes "stale" ++ (word (decimal a) ++ lf)
reply_line (Claimed node) = codes "claimed" ++ (word (or_dot node) ++ lf)
reply_line Renewed = codes "renewed\n"
reply_line Kept = codes "kept\n"
reply_line Cleared = codes "cleared\n"
reply_line (SavingIs n) = codes "saving" ++ (word (decimal n) ++ lf)
reply_line (Saved i) = codes "saved" ++ (word (decimal i.number) ++ lf)
reply_line (Left i why) = codes "left" ++ (word (decimal i.number) ++ (word (reason_word why) ++ lf))
reply_line AllSaved = codes "allsaved\n"
reply_line Dropped = codes "dropped\n"
reply_line (Killed held orphans) = codes "killed" ++ (word (decimal held) ++ (word (decimal orphans) ++ lf))
reply_line (UsersAre users) = codes "users" ++ (flat_map (λ u. word (user_word u)) users ++ lf)
reply_line (CountsAre c) =
    codes "report users" ++ (word (decimal c.users) ++ (codes " stored" ++ (word (decimal c.stored) ++ (codes " held" ++ (word (decimal c.held)
    ++ (codes " flights" ++ (word (decimal c.flights) ++ (codes " unsent" ++ (word (decimal c.unsent) ++ (codes " orphans" ++ (word (decimal c.orphans)
    ++ (codes " waiting" ++ (word (decimal c.waiting) ++ lf)))))))))))))

-- a line that ends by saying that nothing waits
abbrev pub SaysNoneWaits : List ℕ → Type 0
SaysNoneWaits line = (front : List ℕ) × (line ≡ front ++ codes " waiting 0\n")
