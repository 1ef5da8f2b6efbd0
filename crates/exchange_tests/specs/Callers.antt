-- What tests say of a caller's passes.
use Rattle.std.specs.Prelude.{◌≡◌, ℕ, ◌<◌, List}
use Rattle.push_model.specs.DeskViews.{DeskView}
use Rattle.push_exchange.specs.Boards.{IsOver}

-- the passes are of these boards, the shard is one of theirs, and this number signs on it
pub record IsCaller (boards : List (List ℕ)) (shard by : ℕ) (v : DeskView) : Type 0 where
  pub over : IsOver boards v
  pub within : shard < v.size
  pub number : v.number shard ≡ by
