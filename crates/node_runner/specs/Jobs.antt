-- What a job hands back.
use Rattle.std.specs.Prelude.{◌≡◌}
use Rattle.push_model.specs.DeskViews.{DeskView, IsHonest}
use Rattle.push_exchange.specs.Boards.{IsBeside}
use Rattle.node_sessions.specs.Loops.{GoesOn}

-- passes of the same boards, of what is still a legal history, to which own entries and own mail came alone
pub record HandsBack (a b : DeskView) : Type 0 where
  pub size : b.size ≡ a.size
  pub beside : IsBeside a b
  pub honest : IsHonest b
  pub goes_on : GoesOn a b
