-- What a shard does itself: what it refuses, how it takes a message, its counts, its clock and its nodes.
use Rattle.std.specs.Prelude.{ℕ, ◌+◌, ◌-◌, ◌^◌, ◌==◌, ◌&&◌, Bool, true, false, Option, Some, None, [], ◌∷◌, is_some, length, max, take, filter, sum_by, count_by, find, slice_set, if◌then◌else◌, List}
use Rattle.std.specs.List.{list_any, flat_map}
use Rattle.push_model.specs.declared.ids.Uaid.{Uaid}
use Rattle.push_model.specs.declared.ids.ChannelId.{ChannelId}
use Rattle.push_model.specs.declared.ids.Token.{Token}
use Rattle.push_model.specs.declared.ids.Op.{Op}
use Rattle.push_model.specs.declared.parts.Channel.{Channel}
use Rattle.push_model.specs.declared.parts.FlightRow.{FlightRow}
use Rattle.push_model.specs.declared.counts.Counts.{Counts}
use Rattle.push_model.specs.declared.step.Step.{Step}
use Rattle.push_model.specs.declared.step.Step.TheVariants.{Attach, Register}
use Rattle.push_model.specs.declared.reply.Reply.{Reply}
use Rattle.push_model.specs.declared.reply.Reply.TheVariants.{NodeDown, TokenTaken, NoToken, IdsSpent, NoFlight, Done, Killed, Users, Stage as StageIs, Counts as CountsAre}
use Rattle.push_model.specs.AskValue.{AskValue}
use Rattle.push_model.specs.MessageValue.{MessageValue}
use Rattle.push_model.specs.Cells.{Cell, User, is_token, is_flight, channels_of, rows_of}
use Rattle.push_model.specs.UserSteps.{is_idle_user}
use Rattle.push_model.specs.SessionSteps.{lacks}
use Rattle.push_model.specs.FlightSteps.{begin}
use Rattle.push_model.specs.NodeSteps.{killed, held_on, orphaned_on}
use Rattle.push_model.specs.ClockSteps.{ticked}
use Rattle.push_model.specs.Covering.{routed_session, stored_in, held_in, unsent_in, orphans_in, waiting_in}
use Rattle.push_model.specs.Tallies.{capped}
use Rattle.push_model.specs.Worlds.{World, cell_at, on_cell, is_down, is_token_known, has_token_in, has_flight_in, each}

-- ---- what the nodes and other users refuse

abbrev pub refusal_if : Bool → Reply → Option Reply
refusal_if true r = Some r
refusal_if false r = None

abbrev pub refusal : World → Step → Option Reply
refusal w (Attach s) = refusal_if (is_down s.node w) NodeDown
refusal w (Register s h t) = refusal_if (lacks s h (cell_at w.cells s.uaid) && is_token_known t w) TokenTaken
refusal w _ = None

-- ---- Begin

abbrev pub new_message : World → Cell → ChannelId → AskValue → MessageValue
new_message w c h a =
    record { id = record { shard = w.shard; number = w.next }; uaid = c.uaid; chid = h; ask = a; accepted = w.clock }

abbrev pub begin_numbered : World → Op → Token → AskValue → Cell → Channel → World × Reply
begin_numbered w o t a c x =
    if w.next == 2 ^ 63
    then (w, IdsSpent)
    else on_cell (record w { next = w.next + 1 }) c.uaid (begin o t (new_message w c x.chid a))

abbrev pub begin_on : Option Channel → World → Op → Token → AskValue → Cell → World × Reply
begin_on None w o t a c = (w, NoToken)
begin_on (Some x) w o t a c = begin_numbered w o t a c x

abbrev pub begin_for : Option (ℕ × Cell) → World → Op → Token → AskValue → World × Reply
begin_for None w o t a = (w, NoToken)
begin_for (Some e) w o t a = begin_on (find (is_token t) (channels_of e.1.user)) w o t a e.1

abbrev pub stage_reply : Option FlightRow → Reply
stage_reply None = NoFlight
stage_reply (Some f) = StageIs f.stage

-- where op is in use its stage is told
abbrev pub begin_beside : Option (ℕ × Cell) → World → Op → Token → AskValue → World × Reply
begin_beside (Some e) w o t a = (w, stage_reply (find (is_flight o) e.1.flights))
begin_beside None w o t a = begin_for (find (has_token_in t) w.cells) w o t a

abbrev pub begin_message : Op → Token → AskValue → World → World × Reply
begin_message o t a w = begin_beside (find (has_flight_in o) w.cells) w o t a

-- ---- Report

abbrev pub counts : World → Counts
counts w =
    record {
      users = capped (count_by (λ e. is_some e.1.user) w.cells);
      stored = capped (sum_by (λ e. stored_in e.1) w.cells);
      held = capped (sum_by (λ e. held_in e.1) w.cells);
      flights = capped (sum_by (λ e. length e.1.flights) w.cells);
      unsent = capped (sum_by (λ e. unsent_in e.1) w.cells);
      orphans = capped (sum_by (λ e. orphans_in e.1) w.cells);
      waiting = capped (sum_by (λ e. waiting_in e.1) w.cells);
    }

abbrev pub report : World → World × Reply
report w = (w, CountsAre (counts w))

-- ---- ListOrphans and ListIdle: the first 100 users of such cells, in order of their uaids

abbrev pub route_of : Uaid → Option User → List (Uaid × Option ℕ × ℕ)
route_of u None = []
route_of u (Some x) = (u, x.route.node, x.route.at) ∷ []

abbrev pub users_where : (Cell → Bool) → World → List (Uaid × Option ℕ × ℕ)
users_where p w = take 100 (flat_map (λ e. route_of e.1.uaid e.1.user) (filter (λ e. p e.1) w.cells))

-- a row of its user is an orphan, and a session is routed that can be told
abbrev pub is_orphaned : Cell → Bool
is_orphaned c = list_any (λ r. r.orphan) (rows_of c.user) && is_some (routed_session c)

-- Expire would drop its user
abbrev pub is_idle : ℕ → Cell → Bool
is_idle moment c = is_idle_user moment c.user c.sessions

abbrev pub list_orphans : World → World × Reply
list_orphans w = (w, Users (users_where is_orphaned w))

abbrev pub list_idle : World → World × Reply
list_idle w = (w, Users (users_where (is_idle w.clock) w))

-- ---- Tick, Kill and Up

abbrev pub tick : ℕ → World → World × Reply
tick t w = (record w { clock = max w.clock t; cells = each (ticked (max w.clock t)) w.cells }, Done)

abbrev pub kill : ℕ → World → World × Reply
kill n w = (
  record w { down = slice_set w.down (n - 1) true; cells = each (killed n) w.cells },
  Killed (capped (sum_by (λ e. held_on n e.1) w.cells)) (capped (sum_by (λ e. orphaned_on n e.1) w.cells)),
)

abbrev pub up : ℕ → World → World × Reply
up n w = (record w { down = slice_set w.down (n - 1) false }, Done)
