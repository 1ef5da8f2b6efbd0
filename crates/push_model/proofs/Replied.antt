-- In every world each step replies as its kind can.
use Rattle.std.proofs.Common.{◌≡◌, ℕ, ◌+◌, ◌^◌, Bool, true, false, ◌&&◌, List, refl, sym, subst, ◌∙◌}
use Rattle.std.specs.Prelude.{find, Option, Some, None, ◌==◌, if◌then◌else◌}
use Rattle.std.specs.List.{list_any}
use Rattle.push_model.specs.declared.ids.Op.{Op}
use Rattle.push_model.specs.declared.ids.Token.{Token}
use Rattle.push_model.specs.declared.parts.Channel.{Channel}
use Rattle.push_model.specs.declared.parts.FlightRow.{FlightRow}
use Rattle.push_model.specs.declared.step.Actor.TheVariants.{Flight as OfFlight, Saver as OfSaver}
use Rattle.push_model.specs.declared.step.Step.{Step}
use Rattle.push_model.specs.declared.step.Step.TheVariants.{Attach, Register, Begin, Reread, Nudge, Heard, Lost, Clear, Report, Tick, Kill, Up, ListOrphans, ListIdle}
use Rattle.push_model.specs.declared.reply.Reply.{Reply}
use Rattle.push_model.specs.declared.reply.Reply.TheVariants.{NodeDown, TokenTaken, IdsSpent}
use Rattle.push_model.specs.AskValue.{AskValue}
use Rattle.push_model.specs.MessageValue.{MessageValue}
use Rattle.push_model.specs.Cells.{Cell, channels_of, is_token, is_flight, routed_place, empty_cell}
use Rattle.push_model.specs.Outcomes.{Outcome}
use Rattle.push_model.specs.SessionSteps.{lacks}
use Rattle.push_model.specs.FlightSteps.{begin, begin_to}
use Rattle.push_model.specs.Worlds.{World, cell_at, has_flight_in, has_token_in, is_down, is_token_known, on_cell, on_flight_of}
use Rattle.push_model.specs.ShardSteps.{begin_beside, begin_for, begin_on, new_message, refusal, refusal_if, stage_reply}
use Rattle.push_model.specs.Steps.{Action, OnUser, OnFlight, OnShard, act, act_unless, action, step}
use Rattle.push_model.specs.Replies.{replies_to}
use Rattle.push_model.proofs.Members.{among, find_passes, true_not_false}
use Rattle.push_model.proofs.Single.{none_found}
use Rattle.push_model.proofs.Quiet.{RepliesTo}
use Rattle.push_model.proofs.Moving.{Moves}
use Rattle.push_model.proofs.Narrow.{Walked, walked}

-- ---- Begin

begun_replies : (o : Op) (t : Token) (a : AskValue) (m : MessageValue) (c : Cell) (p : Option (ℕ × ℕ)) (b : Bool) → (m.ask.terms.ttl == 0) ≡ b →
    RepliesTo (Begin o t a) (begin_to p o t m c).reply
begun_replies o t a m c (Some p) b e = refl
begun_replies o t a m c None true e = rw e refl
begun_replies o t a m c None false e = rw e refl

numbered_replies : (w : World) (o : Op) (t : Token) (a : AskValue) (c : Cell) (x : Channel) (b : Bool) →
    RepliesTo (Begin o t a) (if b then (w, IdsSpent) else on_cell (record w { next = w.next + 1 }) c.uaid (begin o t (new_message w c x.chid a))).1
numbered_replies w o t a c x true = refl
numbered_replies w o t a c x false =
    let d = cell_at w.cells c.uaid in
    begun_replies o t a (new_message w c x.chid a) d (routed_place d.user) (a.terms.ttl == 0) refl

channel_replies : (w : World) (o : Op) (t : Token) (a : AskValue) (c : Cell) (x : Option Channel) → RepliesTo (Begin o t a) (begin_on x w o t a c).1
channel_replies w o t a c None = refl
channel_replies w o t a c (Some x) = numbered_replies w o t a c x (w.next == 2 ^ 63)

token_replies : (w : World) (o : Op) (t : Token) (a : AskValue) (e : Option (ℕ × Cell)) → RepliesTo (Begin o t a) (begin_for e w o t a).1
token_replies w o t a None = refl
token_replies w o t a (Some e) = channel_replies w o t a e.1 (find (is_token t) (channels_of e.1.user))

-- the flight whose op is in use is there
used_replies : (o : Op) (t : Token) (a : AskValue) (fs : List FlightRow) (f : Option FlightRow) → list_any (is_flight o) fs ≡ true →
    find (is_flight o) fs ≡ f → RepliesTo (Begin o t a) (stage_reply f)
used_replies o t a fs None h e =
    let i = among (is_flight o) fs h in
    absurd (true_not_false (sym i.passes ∙ none_found (is_flight o) fs e i.one i.member))
used_replies o t a fs (Some f) h e = refl

begin_replies : (w : World) (o : Op) (t : Token) (a : AskValue) (e : Option (ℕ × Cell)) → find (has_flight_in o) w.cells ≡ e →
    RepliesTo (Begin o t a) (begin_beside e w o t a).1
begin_replies w o t a None h = token_replies w o t a (find (has_token_in t) w.cells)
begin_replies w o t a (Some e) h =
    used_replies o t a e.1.flights (find (is_flight o) e.1.flights) (find_passes (has_flight_in o) e w.cells h) refl

-- ---- the steps of the shard

abbrev ShardReplies : Step → Action → World → Type 0
ShardReplies x (OnUser u f) w = Unit {0}
ShardReplies x (OnFlight o f) w = Unit {0}
ShardReplies x (OnShard f) w = RepliesTo x (f w).1

shard_replies : (w : World) (x : Step) → ShardReplies x (action w.clock x) w
shard_replies w (Begin o t a) = begin_replies w o t a (find (has_flight_in o) w.cells) refl
shard_replies w (Tick t) = refl
shard_replies w (Kill n) = refl
shard_replies w (Up n) = refl
shard_replies w ListOrphans = refl
shard_replies w ListIdle = refl
shard_replies w Report = refl
shard_replies w (Reread (OfFlight o)) = tt
shard_replies w (Reread (OfSaver s)) = tt
shard_replies w (Nudge (OfFlight o)) = tt
shard_replies w (Nudge (OfSaver s)) = tt
shard_replies w (Heard (OfFlight o)) = tt
shard_replies w (Heard (OfSaver s)) = tt
shard_replies w (Lost (OfFlight o)) = tt
shard_replies w (Lost (OfSaver s)) = tt
shard_replies w (Clear (OfFlight o)) = tt
shard_replies w (Clear (OfSaver s)) = tt
shard_replies w _ = tt

-- ---- each step

flight_replies : (x : Step) (o : Op) (f : Cell → Outcome) (w : World) (e : Option (ℕ × Cell)) → ((c : Cell) → Moves x o c (f c)) →
    RepliesTo x (on_flight_of e w f).1
flight_replies x o f w None h = (h (empty_cell (record { 0 = 0 }))).absent
flight_replies x o f w (Some e) h = (h (cell_at w.cells e.1.uaid)).reply

act_replies : (x : Step) (a : Action) (w : World) → ((c : Cell) → Walked x a c) → ShardReplies x a w → RepliesTo x (act a w).1
act_replies x (OnUser u f) w h k = (h (cell_at w.cells u)).reply
act_replies x (OnFlight o f) w h k = flight_replies x o f w (find (has_flight_in o) w.cells) h
act_replies x (OnShard f) w h k = k

refused_if : (x : Step) (q r : Reply) (b : Bool) → RepliesTo x q → refusal_if b q ≡ Some r → RepliesTo x r
refused_if x q r true h e = let same : q ≡ r = cc in subst (RepliesTo x) same h
refused_if x q r false h e = cc

refused_replies : (w : World) (x : Step) (r : Reply) → refusal w x ≡ Some r → RepliesTo x r
refused_replies w (Attach s) r e = refused_if (Attach s) NodeDown r (is_down s.node w) refl e
refused_replies w (Register s h t) r e = refused_if (Register s h t) TokenTaken r (lacks s h (cell_at w.cells s.uaid) && is_token_known t w) refl e
refused_replies w _ r e = cc

unless_replies : (w : World) (x : Step) (o : Option Reply) → refusal w x ≡ o → RepliesTo x (act_unless o (action w.clock x) w).1
unless_replies w x (Some r) e = refused_replies w x r e
unless_replies w x None e = act_replies x (action w.clock x) w (walked w.clock x) (shard_replies w x)

pub replied : (w : World) (x : Step) → replies_to x (step w x).1 ≡ true
replied w x = unless_replies w x (refusal w x) refl
