-- Sessions by their indexes.
use Rattle.std.specs.Prelude.{◌≡◌, ℕ, Some}
use Rattle.push_model.specs.SessionKey.{SessionKey}
use Rattle.push_model.specs.Keyed.{FoundAt}
use Rattle.push_model.specs.Sessions.{Session, is_attached}
use Rattle.push_model.specs.Cells.{Cell}
use Rattle.push_model.specs.SessionSteps.{attached}

-- x is that session, attached, and stands at the index i
pub record IsSessionAt (s : SessionKey) (i : ℕ) (x : Session) (c : Cell) : Type 0 where
  pub place : FoundAt (is_attached s) c.sessions i
  pub found : attached s c ≡ Some x
