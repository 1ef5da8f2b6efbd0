-- What the router reads in replies.
use Rattle.std.specs.Prelude.{ℕ, ◌==◌, Bool, true, false, Option, Some, None, if◌then◌else◌}
use Rattle.push_model.specs.declared.ids.MsgId.{MsgId}
use Rattle.push_model.specs.declared.reply.Reply.{Reply}
use Rattle.push_model.specs.declared.reply.Reply.TheVariants.{IdsSpent, Begun, Names, End}
use Rattle.endpoint_router.specs.declared.answer.Answer.{Answer}
use Rattle.endpoint_router.specs.declared.answer.Answer.TheVariants.{Created, Gone, Full, IdsSpent as NoIds}
use Rattle.endpoint_router.specs.declared.replies.Begins.{Begins}
use Rattle.endpoint_router.specs.declared.replies.Begins.TheVariants.{Ends, Gives, Stores}

-- the code with which the flight ended, if it did
abbrev pub code_of : Reply → Option ℕ
code_of (End code) = Some code
code_of _ = None

abbrev pub is_end : Reply → Bool
is_end (End code) = true
is_end _ = false

-- the node of the session that the route row names, if there is one
abbrev pub node_of : Reply → Option ℕ
node_of (Names n a) = Some n
node_of _ = None

-- what the sender of a message with that id and ttl is answered where the store ended its flight with that code
abbrev pub answer_to : MsgId → ℕ → ℕ → Answer
answer_to i ttl code = if code == 410 then Gone else (if code == 503 then Full else Created i ttl)

-- how the flight of a message with that ttl begins
abbrev pub begins_unrouted : Bool → MsgId → ℕ → Begins
begins_unrouted true i ttl = Ends (Created i ttl)
begins_unrouted false i ttl = Stores i

abbrev pub begins_of : ℕ → Reply → Begins
begins_of ttl (Begun i (Some p)) = Gives i p.0
begins_of ttl (Begun i None) = begins_unrouted (ttl == 0) i ttl
begins_of ttl IdsSpent = Ends NoIds
begins_of ttl _ = Ends Gone
