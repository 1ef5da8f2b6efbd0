-- Worked steps, by which a reader tries the definitions of steps.
use Rattle.std.specs.Prelude.{ℕ, List, [], ◌∷◌, ◌++◌, None, take, length}
use Rattle.push_model.specs.declared.counts.Counts.{Counts}
use Rattle.push_model.specs.declared.ids.Op.{Op}
use Rattle.push_model.specs.declared.reply.Reply.{Reply}
use Rattle.push_model.specs.declared.step.Actor.{Actor}
use Rattle.push_model.specs.declared.step.Actor.TheVariants.{Flight, Saver}
use Rattle.push_model.specs.declared.step.Stage.TheVariants.{Direct}
use Rattle.push_model.specs.declared.step.Step.{Step}
use Rattle.push_model.specs.declared.step.Step.TheVariants.{Begin, Clear, Kill, Lost, Nudge, Reread, SaveOne, Store}
use Rattle.push_model.specs.Cells.{Cell}
use Rattle.push_model.specs.Histories.{history, world_after}
use Rattle.push_model.specs.MessageValue.{MessageValue}
use Rattle.push_model.specs.SessionKey.{SessionKey}
use Rattle.push_model.specs.Sessions.{Session}
use Rattle.push_model.specs.ShardSteps.{counts}
use Rattle.push_model.specs.Steps.{step}
use Rattle.push_model.specs.Worlds.{start}
use Rattle.push_model.specs.Pins.{ask_for, begun_message, id_of, key_one, one_held, one_saved, op_one, plain, replies_from, to_save, token_one, user_one}

-- ---- the actors of the worked user

-- its session at that node of that moment
abbrev pub key_at : ℕ → ℕ → SessionKey
key_at n a = record { uaid = user_one; node = n; at = a }

-- the first flight, a second one, and the saver of the first session
abbrev pub first_flight : Actor
first_flight = Flight op_one

abbrev pub op_two : Op
op_two = record { pass = 1; k = 2 }

abbrev pub second_flight : Actor
second_flight = Flight op_two

abbrev pub first_saver : Actor
first_saver = Saver key_one

-- a message of 50 seconds begins
abbrev pub begins : Op → Step
begins o = Begin o token_one (ask_for 50 None)

-- ---- what these steps come to

-- the replies of the steps behind the first
abbrev pub replies_after : List Step → List Step → List Reply
replies_after first rest = replies_from (length first) (first ++ rest)

-- what a report counts then
abbrev pub counts_after : List Step → Counts
counts_after steps = counts (world_after step (start 0 1) (history step 1 (start 0 1) steps))

-- ---- worked steps

-- the session holds the message 1, and the message 2 is on its way to it
abbrev pub held_and_flown : List Step
held_and_flown = one_held ++ (begins op_two ∷ [])

abbrev pub second_message : MessageValue
second_message = record begun_message { id = id_of 2 }

-- the row of the message 1 is an orphan, and the session at node 5 of the moment 9 is routed
abbrev pub one_orphan : List Step
one_orphan = take 14 one_saved ++ (Kill 3 ∷ [])

-- a second message is stored, its flight can't tell the session that the route row names, and takes it out
abbrev pub then_unrouted : List Step
then_unrouted = begins op_two ∷ Lost second_flight ∷ Store op_two ∷ Reread second_flight ∷ Lost second_flight ∷ Clear second_flight ∷ []

-- the saver of the first session saves its one message, and finds nobody to tell
abbrev pub then_nobody_told : List Step
then_nobody_told = SaveOne key_one ∷ SaveOne key_one ∷ Reread first_saver ∷ Nudge first_saver ∷ []

-- ---- a worked cell: a message is to be given to that session

abbrev pub to_give : Session → Cell
to_give x =
    record (to_save (plain 5) []) {
      sessions = x ∷ [];
      flights = record { op = op_one; message = plain 5; token = token_one; stage = Direct 3 4 } ∷ [];
    }
