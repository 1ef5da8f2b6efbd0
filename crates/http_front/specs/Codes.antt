-- Which code a reply has.
use Rattle.std.specs.Prelude.{◌≡◌, ℕ, Bool, true, List, ◌++◌, Option, Some, Result, Ok, Err, codes, decimal}
use Rattle.std.specs.List.{list_any}
use Rattle.push_model.specs.declared.entry.NoMemory.{NoMemory}
use Rattle.push_model.specs.declared.ids.MsgId.{MsgId}
use Rattle.push_model.specs.DeskViews.{DeskView}
use Rattle.endpoint_router.specs.declared.answer.Answer.{Answer}
use Rattle.endpoint_router.specs.Causes.{begun_id, says_taken}
use Rattle.http_front.specs.declared.outcome.Outcome.{Outcome}
use Rattle.http_front.specs.declared.outcome.Outcome.TheVariants.{Faulty, Unread, Routed}
use Rattle.http_front.specs.declared.refusal.Refusal.{Refusal}
use Rattle.http_front.specs.Exchanges.{Exchange, IsRouted}
use Rattle.http_front.specs.Rows.{answer_row, created_text, fault_row}

-- its status line begins so
abbrev pub HasCode : ℕ → List ℕ → Type 0
HasCode code text = (rest : List ℕ) × (text ≡ codes "HTTP/1.1 " ++ (decimal code ++ (codes " " ++ rest)))

abbrev pub row_code : Result (MsgId × ℕ) Refusal → ℕ
row_code (Ok taken) = 201
row_code (Err refusal) = refusal.code

-- the code that tells of it, where there is memory for the reply's body
abbrev pub outcome_code : Outcome → ℕ
outcome_code (Faulty fault) = (fault_row fault).code
outcome_code Unread = 500
outcome_code (Routed (Ok answer)) = row_code (answer_row answer)
outcome_code (Routed (Err e)) = 500

-- The message was taken: the flight that its request began ended with 201, and the sender was told the id that its Begin gave it, and
-- the ttl that was asked.
pub record IsTaken (v : DeskView) (moment : Option ℕ) (n : ℕ) (x : Exchange) : Type 0 where
  pub answer : Result Answer NoMemory
  pub outcome : x.outcome ≡ Routed answer
  pub routed : IsRouted v moment n x.request answer x.entries
  pub ended : list_any (λ m. says_taken routed.ask.terms.ttl m.reply) x.entries ≡ true
  pub id : MsgId
  pub named : begun_id x.entries ≡ Some id
  pub close : Bool
  pub told : x.reply ≡ created_text id routed.ask.terms.ttl close
