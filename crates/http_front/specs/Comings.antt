-- What came of a request on the desks.
use Rattle.std.specs.Prelude.{◌≡◌, ℕ, ◌+◌, ◌/◌, List, true, Option, Result}
use Rattle.std.specs.List.{list_any}
use Rattle.push_model.specs.declared.entry.NoMemory.{NoMemory}
use Rattle.push_model.specs.declared.ids.Token.{Token}
use Rattle.push_model.specs.AskValue.{AskValue}
use Rattle.push_model.specs.DeskViews.{Calls, DeskView, Made}
use Rattle.push_outside.specs.Counts.{Rose}
use Rattle.push_outside.specs.Moments.{IsMomentOf}
use Rattle.http_wire.specs.declared.request.Request.{Request}
use Rattle.endpoint_router.specs.declared.answer.Answer.{Answer}
use Rattle.endpoint_router.specs.Routes.{IsRoute}
use Rattle.endpoint_router.specs.Shards.{shard_of}
use Rattle.endpoint_router.specs.Went.{Went, is_lost}
use Rattle.http_front.specs.declared.outcome.Outcome.{Outcome}
use Rattle.http_front.specs.Exchanges.{ComesTo, OnlyPosts, numbers_used, op}

-- a message was routed as the flight n
pub record Routes (moment : Option ℕ) (n : ℕ) (token : Token) (ask : AskValue) (answer : Result Answer NoMemory) (a b : DeskView) (before after : ℕ) : Type 0 where
  pub millis : ℕ
  pub told : IsMomentOf moment millis
  pub went : Went a b (shard_of token a.size) (Rose before after) (IsRoute (shard_of token a.size) (op (a.number (shard_of token a.size)) n) (millis / 1000) token ask answer)

-- what a request came to, where the next flight was n and is m
pub record Comes (moment : Option ℕ) (n m : ℕ) (r : Request) (outcome : Outcome) (a b : DeskView) (before after : ℕ) : Type 0 where
  pub entries : List Made
  pub are : ComesTo a moment n r outcome entries
  pub calls : Calls a b entries
  pub mail : OnlyPosts a b
  pub losses : list_any is_lost entries ≡ true → Rose before after
  pub number : m ≡ n + numbers_used outcome
