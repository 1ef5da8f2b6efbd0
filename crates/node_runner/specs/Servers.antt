-- What callers see of an `HttpEach`.
use Rattle.std.specs.Prelude.{ℕ, List}
use Rattle.push_exchange.specs.PassViews.{PassView}

-- its passes, and how many connections it served
pub record Server : Type 0 where
  pub passes : List PassView
  pub served : ℕ
