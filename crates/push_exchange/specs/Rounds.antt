-- What is done at the first n boards, one after the other.
use Rattle.std.specs.Prelude.{◌≡◌, ℕ, ◌<◌, ◌≤◌, List, length}
use Rattle.push_model.specs.Worlds.{World}
use Rattle.push_exchange.specs.PassViews.{IsEndOf, IsJoinedPass, IsSplitOff, IsUnmoved, PassView, opening_pass}
use Rattle.push_exchange.specs.Boards.{board_at, pass_at, world_in}

-- they were opened, each with the empty shard of its number, and these are their first passes
pub record IsOpened (n : ℕ) (bs : List (List ℕ)) (ps : List PassView) : Type 0 where
  pub boards : length bs ≡ n
  pub wide : length ps ≡ n
  pub each : (k : ℕ) → k < n → pass_at ps k ≡ opening_pass (board_at bs k) k

-- nothing more is seen at any
pub record AllUnmoved (ps qs : List PassView) : Type 0 where
  pub wide : length qs ≡ length ps
  pub each : (k : ℕ) → IsUnmoved (pass_at ps k) (pass_at qs k)

pub record AllSplitOff (n : ℕ) (ps qs : List PassView) : Type 0 where
  pub wide : length qs ≡ n
  pub each : (k : ℕ) → k < n → IsSplitOff (pass_at ps k) (pass_at qs k)

pub record AllJoined (n : ℕ) (ps qs rs : List PassView) : Type 0 where
  pub wide : length rs ≡ length ps
  pub each : (k : ℕ) → k < n → IsJoinedPass (pass_at ps k) (pass_at qs k) (pass_at rs k)
  pub rest : (k : ℕ) → n ≤ k → pass_at rs k ≡ pass_at ps k

pub record AllEnded (n : ℕ) (ps : List PassView) (ws : List World) : Type 0 where
  pub wide : length ws ≡ n
  pub each : (k : ℕ) → k < n → IsEndOf (pass_at ps k) (world_in ws k)
