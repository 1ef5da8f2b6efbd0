-- The flight that a request begins.
use Rattle.std.specs.Prelude.{◌≡◌, ◌⊎◌, ℕ, Bool, true, false, List, [], ◌∷◌, filter, IsErr}
use Rattle.push_model.specs.declared.ids.Token.{Token}
use Rattle.push_model.specs.declared.reply.Reply.{Reply}
use Rattle.push_model.specs.declared.step.Step.{Step}
use Rattle.push_model.specs.declared.step.Step.TheVariants.{Begin}
use Rattle.push_model.specs.AskValue.{AskValue}
use Rattle.push_model.specs.DeskViews.{DeskView, Made, made}
use Rattle.http_wire.specs.declared.request.Request.{Request}
use Rattle.endpoint_router.specs.Shards.{shard_of}
use Rattle.http_front.specs.declared.outcome.Outcome.{Outcome}
use Rattle.http_front.specs.declared.outcome.Outcome.TheVariants.{Routed}
use Rattle.http_front.specs.Exchanges.{op}
use Rattle.http_front.specs.Faults.{AsksFor}

abbrev pub is_begin : Step → Bool
is_begin (Begin o t ask) = true
is_begin _ = false

abbrev pub begins_of : List Made → List Made
begins_of ms = filter (λ m. is_begin m.step) ms

-- the one Begin among them is that of the flight n on the token's shard, with that token and what was asked
abbrev pub HasBegun : DeskView → ℕ → Token → AskValue → List Made → Type 0
HasBegun v n t ask ms = (reply : Reply) × (begins_of ms ≡ made (shard_of t v.size) (Begin (op (v.number (shard_of t v.size)) n) t ask) reply ∷ [])

-- A request that was routed made one Begin, with its token, its terms and its body, unless memory was wanted before. Any other made
-- no entry.
abbrev pub BeginsOnce : DeskView → ℕ → Request → Outcome → List Made → Type 0
BeginsOnce v n r (Routed answer) ms = (t : Token) × (ask : AskValue) × AsksFor r t ask × (HasBegun v n t ask ms ⊎ (IsErr answer × (begins_of ms ≡ [])))
BeginsOnce v n r outcome ms = ms ≡ []
