-- How a session ends: it is closed, and its saver saves what it held and tells of it.
use Rattle.std.specs.Prelude.{◌≡◌, ◌≤◌, ◌==◌, ◌+◌, ◌-◌, ◌^◌, ℕ, min, nat_le, List, [], ◌∷◌, Result, Ok, Err, Option, Some, None, if◌then◌else◌}
use Rattle.push_model.specs.SessionKey.{SessionKey}
use Rattle.push_model.specs.DeskViews.{DeskView, Calls, Mails}
use Rattle.push_model.specs.declared.step.Actor.TheVariants.{Saver}
use Rattle.push_model.specs.declared.step.Stage.TheVariants.{Clear as AtClear}
use Rattle.push_model.specs.declared.step.Step.{Step}
use Rattle.push_model.specs.declared.step.Step.TheVariants.{Close, Release, SaveOne, Reread, Nudge, Heard, Lost, Clear}
use Rattle.push_model.specs.declared.reply.Reply.{Reply}
use Rattle.push_model.specs.declared.reply.Reply.TheVariants.{Saving, Saved, Left, AllSaved, Names, Moved}
use Rattle.node_routes.specs.declared.link.Linked.{Linked}
use Rattle.node_routes.specs.declared.link.Linked.TheVariants.{Lost as LinkLost}
use Rattle.node_routes.specs.Links.{LinkFails, Links}
use Rattle.node_routes.specs.Posts.{OnlyPosts}
use Rattle.session_drive.specs.Runs.{Next, Asks, Over, Steps}

-- ---- saving; the end is how many were saved, and the node of the session that is to be told of it, if one is

abbrev pub Handed : Type 0
Handed = ℕ × Option ℕ

-- where something was saved: which session does the route row name by now?
abbrev pub rereading : ℕ → SessionKey → ℕ → List Reply → Next Handed
rereading k s m [] = Asks k (Reread (Saver s))
rereading k s m (Names node at ∷ rs) = Over (Ok (m, Some node))
rereading k s m (r ∷ rs) = Over (Ok (m, None))

-- of n messages that were held; c were looked at, and m saved
abbrev pub saving : ℕ → SessionKey → ℕ → ℕ → ℕ → List Reply → Next Handed
saving k s n c m [] = if nat_le c n then Asks k (SaveOne s) else Over (Ok (m, None))
saving k s n c m (Saved i ∷ rs) = saving k s n (c + 1) (m + 1) rs
saving k s n c m (Left i reason ∷ rs) = saving k s n (c + 1) m rs
saving k s n c m (AllSaved ∷ rs) = if m == 0 then Over (Ok (m, None)) else rereading k s m rs
saving k s n c m (r ∷ rs) = Over (Ok (m, None))

abbrev pub releasing : ℕ → SessionKey → ℕ → List Reply → Next Handed
releasing k s n [] = Asks k (Release s)
releasing k s n (r ∷ rs) = saving k s n 0 0 rs

abbrev pub closing : ℕ → SessionKey → List Reply → Next Handed
closing k s [] = Asks k (Close s)
closing k s (Saving n ∷ rs) = releasing k s n rs
closing k s (r ∷ rs) = Over (Ok (0, None))

-- ---- telling

abbrev pub clearing : ℕ → SessionKey → List Reply → Next (Unit {0})
clearing k s [] = Asks k (Clear (Saver s))
clearing k s (r ∷ rs) = Over (Ok tt)

-- the saver hears what the link answered, or that it was lost
abbrev pub heard_step : SessionKey → Linked → Step
heard_step s LinkLost = Lost (Saver s)
heard_step s answer = Heard (Saver s)

-- and takes the session that couldn't be told out of the route row
abbrev pub hearing : ℕ → SessionKey → Linked → List Reply → Next (Unit {0})
hearing k s answer [] = Asks k (heard_step s answer)
hearing k s answer (Moved (AtClear node at) ∷ rs) = clearing k s rs
hearing k s answer (r ∷ rs) = Over (Ok tt)

-- the session at that node is told by the link, with the saver's Nudge
pub record Tells (k : ℕ) (s : SessionKey) (node : ℕ) (a c : DeskView) (before after : ℕ) : Type 0 where
  pub answer : Linked
  pub middle : DeskView
  pub links : Links a middle k (Nudge (Saver s)) answer
  pub posts : OnlyPosts a middle k node
  pub cause : LinkFails answer before after
  pub hears : Steps (hearing k s answer) (Ok tt) middle c

-- ---- the whole of it

-- where no session is to be told, nothing else is done
abbrev pub ThenTells : ℕ → SessionKey → Option ℕ → DeskView → DeskView → ℕ → ℕ → Type 0
ThenTells k s None a c before after = Calls a c [] × Mails a c [] × (after ≡ before)
ThenTells k s (Some node) a c before after = Tells k s node a c before after

-- a number that stops at the last value of its type
abbrev pub counted : ℕ → ℕ
counted m = min m (2 ^ 32 - 1)

pub record ShutMade (k : ℕ) (s : SessionKey) (result : ℕ) (a c : DeskView) (before after : ℕ) : Type 0 where
  pub saved : ℕ
  pub named : Option ℕ
  pub middle : DeskView
  pub saves : Steps (closing k s) (Ok (saved, named)) a middle
  pub tells : ThenTells k s named middle c before after
  pub count : result ≡ counted saved
