-- What one thing after the other does to the desks.
use Rattle.std.proofs.Common.{◌≡◌, inl, inr, ℕ, zero, suc, Bool, true, false, List, [], ◌∷◌, ◌++◌, sym, subst, Result, Ok, Err, Option, Some, None}
use Rattle.push_model.specs.SessionKey.{SessionKey}
use Rattle.push_model.specs.DeskViews.{DeskView, Made, Calls, IsHonest, written}
use Rattle.push_model.specs.declared.ids.Uaid.{Uaid}
use Rattle.push_model.specs.declared.mail.MailChange.TheVariants.{Taken}
use Rattle.push_model.specs.declared.reply.Reply.{Reply}
use Rattle.push_model.specs.declared.step.Step.{Step}
use Rattle.push_model.proofs.DeskLemmas.{calls_none, calls_more, mails_none, mails_more, honest_after}
use Rattle.push_outside.specs.declared.chat.Heard.{Heard}
use Rattle.push_outside.specs.declared.chat.Heard.TheVariants.{Text, Binary, TooLong, NotYet, End, Failed, NoMemory as HeardNoMemory}
use Rattle.client_messages.specs.ClientTexts.{client_message}
use Rattle.client_messages.specs.declared.client.ClientMsg.{ClientMsg}
use Rattle.client_messages.specs.declared.client.ClientMsg.TheVariants.{Hello, Register, Unregister, Ack, Nack, BroadcastSubscribe, Ping}
use Rattle.client_messages.specs.declared.client.ClientFault.{ClientFault}
use Rattle.node_routes.specs.declared.link.Linked.{Linked}
use Rattle.node_routes.specs.declared.link.Linked.TheVariants.{Here, NotHere, Lost, NoMemory as LinkNoMemory}
use Rattle.node_routes.specs.Links.{Links}
use Rattle.session_drive.specs.Runs.{Next, Steps, Runs, Sides, Still}
use Rattle.session_drive.specs.Answers.{MessageAnswered, MeaningAnswered, TextAnswered}
use Rattle.session_drive.specs.Shuts.{Tells, ThenTells, ShutMade}
use Rattle.session_drive.specs.declared.ends.SessionEnd.{SessionEnd}
use Rattle.session_drive.specs.declared.turns.Turned.{Turned}
use Rattle.session_front.specs.Pumps.{FirstAnswered, Greets, ItemAnswered, OnlySays, PumpEnds, PumpMade, Serves, Shuts, TextOf, ThenTurns, TurnsWhere}
use Rattle.session_front.specs.declared.live.Live.{Live}
use Rattle.session_front.specs.declared.live.Place.{Place}
use Rattle.session_front.specs.declared.live.Pumped.{Pumped}
use Rattle.node_sessions.specs.Seats.{SeatView}
use Rattle.node_sessions.specs.Mail.{ShardRead, MailRead}
use Rattle.node_sessions.specs.Pumps.{Served, PumpsMade}
use Rattle.node_sessions.specs.Closes.{SeatsClosed}
use Rattle.node_sessions.specs.Loops.{GoesOn, RoundMade, RoundsMade}

pub go_none : (a : DeskView) → GoesOn a a
go_none a = record { made = []; calls = calls_none a; written = []; mail = mails_none a }

pub go_more : (a b c : DeskView) → GoesOn a b → GoesOn b c → GoesOn a c
go_more a b c f g = record {
  made = f.made ++ g.made;
  calls = calls_more a b c f.made g.made f.calls g.calls;
  written = f.written ++ g.written;
  mail = mails_more a b c f.written g.written f.mail g.mail;
}

go_same : (a b : DeskView) → b ≡ a → GoesOn a b
go_same a b e = subst (λ (d : DeskView). GoesOn a d) (sym e) (go_none a)

sides_same : (a b : Sides) → b ≡ a → GoesOn a.desks b.desks
sides_same a b e = subst (λ (d : Sides). GoesOn a.desks d.desks) (sym e) (go_none a.desks)

steps_go : {A : Type 0} → (next : List Reply → Next A) (result : Result A SessionEnd) (a b : DeskView) → Steps next result a b → GoesOn a b
steps_go next result a b h = record { made = h.made; calls = h.calls; written = []; mail = h.mail }

runs_go : {A : Type 0} → (next : List Reply → Next A) (texts : Reply → List (List ℕ)) (result : Result A SessionEnd) (a b : Sides) → Runs next texts result a b → GoesOn a.desks b.desks
runs_go next texts result a b h = record { made = h.made; calls = h.calls; written = []; mail = h.mail }

still_goes : (a b : Sides) → Still a b → GoesOn a.desks b.desks
still_goes a b h = record { made = []; calls = h.calls; written = []; mail = h.mail }

-- ---- an item

module _ (k : ℕ) (s : SessionKey) (port : ℕ) (result : Result (Unit {0}) SessionEnd) (a b : Sides) (before after : Option (List ℕ)) where
  message_goes : (m : ClientMsg) → MessageAnswered k s port m result a b before after → GoesOn a.desks b.desks
  message_goes (Hello u) h = still_goes a b h.1
  message_goes (Register c) h = runs_go _ _ _ a b h.runs
  message_goes (Unregister c) h = runs_go _ _ _ a b h.0
  message_goes (Ack us) h = runs_go _ _ _ a b h.0
  message_goes Nack h = still_goes a b h.1
  message_goes BroadcastSubscribe h = still_goes a b h.1
  message_goes Ping h = runs_go _ _ _ a b h.0

  meaning_goes : (m : Result ClientMsg ClientFault) → MeaningAnswered k s port m result a b before after → GoesOn a.desks b.desks
  meaning_goes (Ok m) h = message_goes m h
  meaning_goes (Err fault) h = still_goes a b h.1

  text_goes : (m : Result ClientMsg ClientFault) → TextAnswered k s port m result a b before after → GoesOn a.desks b.desks
  text_goes m (inl h) = meaning_goes m h
  text_goes m (inr h) = still_goes a b h.1

module _ (node port : ℕ) (moment : Option ℕ) (answer : Result (Unit {0}) SessionEnd) (t : Option SessionKey) (a b : Sides) (before after : Option (List ℕ)) where
  says_goes : (meant : Result (Unit {0}) SessionEnd) (s : Option SessionKey) → OnlySays meant s answer t a b before after → GoesOn a.desks b.desks
  says_goes meant s h = sides_same a b h.2

  greets_go : (u : Option Uaid) → Greets node u moment answer t a b before after → GoesOn a.desks b.desks
  greets_go u h = steps_go _ _ a.desks b.desks h.hello.steps

  first_goes : (m : Result ClientMsg ClientFault) → FirstAnswered node m moment answer t a b before after → GoesOn a.desks b.desks
  first_goes (Ok (Hello u)) h = greets_go u h
  first_goes (Ok (Register c)) h = sides_same a b h.2
  first_goes (Ok (Unregister c)) h = sides_same a b h.2
  first_goes (Ok (Ack us)) h = sides_same a b h.2
  first_goes (Ok Nack) h = sides_same a b h.2
  first_goes (Ok BroadcastSubscribe) h = sides_same a b h.2
  first_goes (Ok Ping) h = sides_same a b h.2
  first_goes (Err fault) h = sides_same a b h.2

  said_goes : (s : Option SessionKey) (text : List ℕ) → TextOf node port s text moment answer t a b before after → GoesOn a.desks b.desks
  said_goes None text (inl h) = first_goes (client_message text) h
  said_goes None text (inr h) = sides_same a b h.2
  said_goes (Some s) text h = text_goes _ s port answer a b before after (client_message text) h.0

  item_goes : (s : Option SessionKey) (heard : Heard) → ItemAnswered node port s heard moment answer t a b before after → GoesOn a.desks b.desks
  item_goes s (Text text) h = said_goes s text h
  item_goes s Binary h = sides_same a b h.2
  item_goes s TooLong h = sides_same a b h.2
  item_goes s NotYet h = sides_same a b h.2
  item_goes s End h = sides_same a b h.2
  item_goes s Failed h = sides_same a b h.2
  item_goes s HeardNoMemory h = sides_same a b h.2

-- ---- a turn

module _ (a b : Sides) where
  turn_goes : (s : Option SessionKey) (time : Bool) (turned : Option (Result Turned SessionEnd)) → TurnsWhere s time turned a b → GoesOn a.desks b.desks
  turn_goes None time turned h = sides_same a b h.1
  turn_goes (Some s) false turned h = sides_same a b h.1
  turn_goes (Some s) true None h = absurd h
  turn_goes (Some s) true (Some turned) h = runs_go _ _ turned a b h

  then_goes : (answer : Result (Unit {0}) SessionEnd) (time : Bool) (s : Option SessionKey) (turned : Option (Result Turned SessionEnd)) → ThenTurns answer time s turned a b → GoesOn a.desks b.desks
  then_goes (Ok u) time s turned h = turn_goes s time turned h
  then_goes (Err e) time s turned h = sides_same a b h.1

-- ---- a shut

module _ (a b : DeskView) (k : ℕ) (x : Step) where
  links_call : (answer : Linked) → Links a b k x answer → (ms : List Made) × Calls a b ms
  links_call Here h = (_, h.2.calls)
  links_call NotHere h = (_, h.2.calls)
  links_call Lost (inl h) = ([], h)
  links_call Lost (inr h) = (_, h.1.calls)
  links_call LinkNoMemory h = ([], h.0)

module _ (k : ℕ) (s : SessionKey) (before after : ℕ) where
  tells_go : (node : ℕ) (a c : DeskView) → Tells k s node a c before after → GoesOn a c
  tells_go node a c h =
      let linked = links_call a h.middle k _ h.answer h.links in
      go_more a h.middle c (record { made = linked.0; calls = linked.1; written = h.posts.0; mail = h.posts.2 }) (steps_go _ _ h.middle c h.hears)

  then_tells : (named : Option ℕ) (a c : DeskView) → ThenTells k s named a c before after → GoesOn a c
  then_tells None a c h = record { made = []; calls = h.0; written = []; mail = h.1 }
  then_tells (Some node) a c h = tells_go node a c h

  shut_goes : (saved : ℕ) (a c : DeskView) → ShutMade k s saved a c before after → GoesOn a c
  shut_goes saved a c h = go_more a h.middle c (steps_go _ _ a h.middle h.saves) (then_tells h.named h.middle c h.tells)

shuts_go : (s : Option SessionKey) (a b : DeskView) (before after : ℕ) → Shuts s a b before after → GoesOn a b
shuts_go None a b before after h = go_same a b h.0
shuts_go (Some s) a b before after h = shut_goes _ s before after h.0 a b h.1

-- ---- a pump

ends_go : (outcome : Result (Option Turned) SessionEnd) (heard : Heard) (t : Option SessionKey) (due : Bool) (result : Pumped) (live : Live) (a b : Sides) (before after : ℕ) → PumpEnds outcome heard t due result live a b before after → GoesOn a.desks b.desks
ends_go (Ok turned) heard t due result live a b before after h = sides_same a b h.3
ends_go (Err e) heard t due result live a b before after h = shuts_go t a.desks b.desks before after h.2.shuts

module _ (place : Place) (moment : Option ℕ) (a : Sides) (given after : Option (List ℕ)) where
  serves_go : (live : Live) (heard : Heard) (t : Option SessionKey) (outcome : Result (Option Turned) SessionEnd) (d : Sides) → Serves place live moment heard t outcome a d given after → GoesOn a.desks d.desks
  serves_go live heard t outcome d h =
      go_more a.desks h.c.desks d.desks
      (item_goes place.node place.port moment h.answer t (record { desks = a.desks; chat = h.b }) h.c given after live.s heard h.answers)
      (then_goes h.c d h.answer _ t h.turned h.turns)

  pub pump_goes : (live next : Live) (result : Pumped) (e : Sides) (before faults : ℕ) → PumpMade place live next moment result a e given after before faults → GoesOn a.desks e.desks
  pump_goes live next result e before faults h =
      go_more a.desks h.d.desks e.desks
      (serves_go live h.heard h.attached h.outcome h.d h.serves)
      (ends_go h.outcome h.heard h.attached live.due result next h.d e before faults h.ends)

pumps_go : (place : Place) (moment : Option ℕ) (n : ℕ) (x z : Served) → PumpsMade place moment n x z → GoesOn x.desks z.desks
pumps_go place moment zero x z e = subst (λ (w : Served). GoesOn x.desks w.desks) (sym e) (go_none x.desks)
pumps_go place moment (suc n) x z h =
    go_more x.desks h.0.desks z.desks (pumps_go place moment n x h.0 h.3) (pump_goes place moment _ _ _ _ _ _ _ _ _ h.4.made)

-- ---- mail

read_goes : (node k : ℕ) (a b : DeskView) (xs ys : List SeatView) → ShardRead node k a b xs ys → GoesOn a b
read_goes node k a b xs ys h = record { made = []; calls = h.calls; written = written k node (Taken h.bits) ∷ []; mail = h.mail }

mail_goes : (node n : ℕ) (a c : DeskView) (xs zs : List SeatView) → MailRead node n a c xs zs → GoesOn a c
mail_goes node zero a c xs zs h = go_same a c h.0
mail_goes node (suc k) a c xs zs h = go_more a h.0 c (mail_goes node k a h.0 xs h.1 h.2) (read_goes node k h.0 c h.1 zs h.3)

-- ---- rounds, and the end

round_goes : (place : Place) (moment : Option ℕ) (given after : ℕ) (x z : Served) → RoundMade place moment given after x z → GoesOn x.desks z.desks
round_goes place moment given after x z h =
    go_more x.desks h.desks z.desks (mail_goes _ _ x.desks h.desks _ _ h.mail) (pumps_go place moment h.count _ z h.pumps)

rounds_go : (place : Place) (moment : Option ℕ) (n given after : ℕ) (x z : Served) → RoundsMade place moment n given after x z → GoesOn x.desks z.desks
rounds_go place moment zero given after x z h = subst (λ (w : Served). GoesOn x.desks w.desks) (sym h.1) (go_none x.desks)
rounds_go place moment (suc n) given after x z h =
    go_more x.desks h.1.desks z.desks (rounds_go place moment n given h.0 x h.1 h.2) (round_goes place moment h.0 after h.1 z h.3)

seats_go : (seats : List SeatView) (a c : DeskView) (before after : ℕ) → SeatsClosed seats a c before after → GoesOn a c
seats_go [] a c before after h = go_same a c h.0
seats_go (seat ∷ seats) a c before after h =
    go_more a h.0 c (seats_go seats a h.0 before h.1 h.2) (shuts_go seat.live.s h.0 c h.1 after h.3.shuts)

pub loop_goes : (place : Place) (moment : Option ℕ) (n given after : ℕ) (x y : Served) (desks : DeskView) (faults : ℕ) → RoundsMade place moment n given after x y → SeatsClosed y.seats y.desks desks y.faults faults → GoesOn x.desks desks
loop_goes place moment n given after x y desks faults f g =
    go_more x.desks y.desks desks (rounds_go place moment n given after x y f) (seats_go y.seats y.desks desks y.faults faults g)

pub honest_on : (a b : DeskView) → GoesOn a b → IsHonest a → IsHonest b
honest_on a b h = honest_after a b h.made h.written h.calls h.mail
