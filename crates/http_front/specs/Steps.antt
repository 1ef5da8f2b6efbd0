-- One request more of a connection.
use Rattle.std.specs.Prelude.{◌≡◌, ◌⊎◌, ℕ, ◌+◌, List, true, Option, Result, Ok, Err, IfOk, IfErr, is_some}
use Rattle.std.specs.List.{list_any}
use Rattle.std.specs.Io.KnownBytes.{Keeps}
use Rattle.push_model.specs.DeskViews.{Calls, Made}
use Rattle.push_outside.specs.Counts.{Rose}
use Rattle.http_bytes.specs.declared.fault.WireFault.{WireFault}
use Rattle.http_bytes.specs.Causes.{CausedByWrites}
use Rattle.http_bytes.specs.Moves.{Takes}
use Rattle.http_bytes.specs.Puts.{WritesAll}
use Rattle.http_wire.specs.declared.request.Request.{Request}
use Rattle.http_wire.specs.Requests.{BreaksRequest}
use Rattle.endpoint_router.specs.Went.{is_lost}
use Rattle.http_front.specs.declared.ends.HttpEnd.{HttpEnd}
use Rattle.http_front.specs.declared.outcome.Outcome.{Outcome}
use Rattle.http_front.specs.Exchanges.{ComesTo, Exchange, IsAnswered, OnlyPosts, Tells, end_after, exchange_end, numbers_used, request_end}
use Rattle.http_front.specs.Served.{FaultTold, IsOfWrite, Scene}

-- ---- an answer

-- a request that was read came to this, and was told of it, whole or in front
pub record Answers (moment : Option ℕ) (count : ℕ) (r : Request) (result : Result (Option HttpEnd) WireFault) (a b : Scene) : Type 0 where
  pub outcome : Outcome
  pub entries : List Made
  pub reply : List ℕ
  pub comes : ComesTo a.desks moment a.number r outcome entries
  pub calls : Calls a.desks b.desks entries
  pub mail : OnlyPosts a.desks b.desks
  pub losses : list_any is_lost entries ≡ true → Rose a.losses b.losses
  pub number : b.number ≡ a.number + numbers_used outcome
  pub tells : Tells outcome (is_some (end_after (request_end r) count b.number)) reply
  pub kept : Keeps a.left b.left
  pub written : WritesAll result reply a.written b.written
  pub end : IfOk result (λ e. e ≡ end_after (request_end r) count b.number)
  pub of_write : IfErr result IsOfWrite

-- ---- a request that is read, and its answer

-- the exchange of that count was made; its reply was written, whole or in front
pub record Exchanged (moment : Option ℕ) (count : ℕ) (result : Result (Option HttpEnd) WireFault) (old new : List ℕ) (a b : Scene) : Type 0 where
  pub exchange : Exchange
  pub takes : Takes a.left b.left old new exchange.text
  pub answered : IsAnswered a.desks moment count a.number exchange
  pub calls : Calls a.desks b.desks exchange.entries
  pub mail : OnlyPosts a.desks b.desks
  pub losses : list_any is_lost exchange.entries ≡ true → Rose a.losses b.losses
  pub number : b.number ≡ a.number + numbers_used exchange.outcome
  pub written : WritesAll result exchange.reply a.written b.written
  pub end : IfOk result (λ e. e ≡ exchange_end exchange count a.number)
  pub of_write : IfErr result IsOfWrite

-- no request was read, and the sender was told why, where there is something to say
pub record Broken (fault : WireFault) (old : List ℕ) (a b : Scene) : Type 0 where
  pub desks : b.desks ≡ a.desks
  pub losses : b.losses ≡ a.losses
  pub number : b.number ≡ a.number
  pub why : WireFault
  pub breaks : BreaksRequest why a.left b.left old
  pub told : FaultTold why fault a.written b.written

abbrev pub Nexts : Option ℕ → ℕ → Result (Option HttpEnd) WireFault → List ℕ → List ℕ → Scene → Scene → Type 0
Nexts moment count (Ok e) old new a b = Exchanged moment count (Ok e) old new a b
Nexts moment count (Err fault) old new a b = Exchanged moment count (Err fault) old new a b ⊎ Broken fault old a b

-- ---- causes

-- why the connection ends where that fault was told: for that, or for a fault of writing it
abbrev pub WhyCausedBy : WireFault → WireFault → ℕ → ℕ → ℕ → Type 0
WhyCausedBy why fault before now lulls = ((fault ≡ why) × (now ≡ before)) ⊎ CausedByWrites {A = ℕ} (Err fault) before now lulls
