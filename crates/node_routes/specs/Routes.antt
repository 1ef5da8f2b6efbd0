-- What the routes of a node did, by what they answered.
use Rattle.std.specs.Prelude.{◌≡◌, ℕ, Bool, true, false, []}
use Rattle.push_model.specs.declared.ids.Op.{Op}
use Rattle.push_model.specs.declared.ids.Uaid.{Uaid}
use Rattle.push_model.specs.declared.step.Step.TheVariants.{Direct, Notif}
use Rattle.push_model.specs.declared.reply.Reply.{Reply}
use Rattle.push_model.specs.declared.reply.Reply.TheVariants.{Here}
use Rattle.push_model.specs.DeskViews.{DeskView, Calls}
use Rattle.node_routes.specs.declared.link.Linked.{Linked}
use Rattle.node_routes.specs.declared.link.Linked.TheVariants.{Here as LinkedHere, NotHere as LinkedNotHere, Lost as LinkedLost, NoMemory as LinkedNoMemory}
use Rattle.node_routes.specs.Links.{Makes, Says}

-- Direct was made on the shard k, and its reply says the answer; or it wasn't, for want of memory
abbrev pub AnswersPush : DeskView → DeskView → ℕ → Op → Linked → Type 0
AnswersPush a b k o LinkedHere = Says a b k (Direct o) LinkedHere
AnswersPush a b k o LinkedNotHere = Says a b k (Direct o) LinkedNotHere
AnswersPush a b k o LinkedLost = ⊥
AnswersPush a b k o LinkedNoMemory = Calls a b []

-- the session was found
abbrev pub is_here : Reply → Bool
is_here (Here u) = true
is_here _ = false

-- Notif was made on the shard k, and its reply says whether the session was found
abbrev pub AnswersNotif : DeskView → DeskView → ℕ → ℕ → Uaid → Bool → Type 0
AnswersNotif a b k n u answer = (r : Reply) × (is_here r ≡ answer) × Makes a b k (Notif n u) r
