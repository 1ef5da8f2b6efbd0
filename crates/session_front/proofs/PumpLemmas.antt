-- What a pump is made of.
use Rattle.std.proofs.Common.{◌≡◌, ◌⊎◌, ℕ, Bool, true, List, [], ◌∷◌, refl, sym, subst, Result, Ok, Err, Option, Some, None}
use Rattle.push_model.specs.SessionKey.{SessionKey}
use Rattle.push_model.specs.declared.ids.Uaid.{Uaid}
use Rattle.client_messages.specs.ClientTexts.{Answers}
use Rattle.client_messages.specs.ServerTexts.{hello_text}
use Rattle.client_messages.specs.declared.client.ClientMsg.{ClientMsg}
use Rattle.client_messages.specs.declared.client.ClientMsg.TheVariants.{Hello, Register, Unregister, Ack, Nack, BroadcastSubscribe, Ping}
use Rattle.client_messages.specs.declared.client.ClientFault.{ClientFault}
use Rattle.client_messages.specs.declared.client.ClientFault.TheVariants.{NotJson, NoType, UnknownType, BadField, NoMemory}
use Rattle.session_drive.specs.declared.ends.SessionEnd.{SessionEnd}
use Rattle.session_drive.specs.declared.ends.SessionEnd.TheVariants.{Refused}
use Rattle.session_drive.specs.Chats.{ChatView, Sends}
use Rattle.session_drive.specs.Runs.{Sides}
use Rattle.session_drive.specs.Shards.{shard_of}
use Rattle.session_drive.specs.Turns.{TurnMade}
use Rattle.session_drive.specs.declared.turns.Turned.{Turned}
use Rattle.session_front.specs.Pumps.{FirstAnswered, Greets, IsNoHello, TurnsWhere, served}

pub no_hello : (meant : Result ClientMsg ClientFault) (e : ClientFault) → Answers meant (Err e) → (e ≡ NoMemory → ⊥) → IsNoHello meant
no_hello meant NotJson h n = subst IsNoHello (sym h) tt
no_hello meant NoType h n = subst IsNoHello (sym h) tt
no_hello meant UnknownType h n = subst IsNoHello (sym h) tt
no_hello meant (BadField f) h n = subst IsNoHello (sym h) tt
no_hello meant NoMemory h n = absurd (n refl)

module _ (node : ℕ) (meaning : Result ClientMsg ClientFault) (moment : Option ℕ) (answer : Result (Unit {0}) SessionEnd) (t : Option SessionKey) (a b : Sides) (g0 g1 : Option (List ℕ)) where
  pub first_hello : (u : Option Uaid) → meaning ≡ Ok (Hello u) → Greets node u moment answer t a b g0 g1 → FirstAnswered node meaning moment answer t a b g0 g1
  first_hello u e h = subst (λ (m : Result ClientMsg ClientFault). FirstAnswered node m moment answer t a b g0 g1) (sym e) h

pub first_other : (node : ℕ) (meaning : Result ClientMsg ClientFault) (moment : Option ℕ) (a : Sides) (g : Option (List ℕ)) → IsNoHello meaning → FirstAnswered node meaning moment (Err Refused) None a a g g
first_other node (Ok (Hello u)) moment a g h = absurd h
first_other node (Ok m) moment a g h = (refl, refl, refl, refl)
first_other node (Err e) moment a g h = (refl, refl, refl, refl)

-- a turn that was made
pub turned_where : (o : Option SessionKey) (s : SessionKey) (time : Bool) (result : Result (Option Turned) SessionEnd) (a b : Sides) → o ≡ Some s → time ≡ true
    → (turned : Result Turned SessionEnd) × TurnMade (shard_of s.uaid a.desks.size) s turned a b × (result ≡ served (Ok tt) (Some turned))
    → (x : Option (Result Turned SessionEnd)) × TurnsWhere o time x a b × (result ≡ served (Ok tt) x)
turned_where o s time result a b is on h = (Some h.0, rw (is, on) h.1, h.2)

-- the same user by another name
pub said_to : (result : Result (Unit {0}) SessionEnd) (u v : Uaid) (a b : ChatView) → u ≡ v → Sends result (hello_text u ∷ []) a b → Sends result (hello_text v ∷ []) a b
said_to result u v a b e h = subst (λ (w : Uaid). Sends result (hello_text w ∷ []) a b) e h
