-- The saver of a session, changed at its place.
use Rattle.std.proofs.Common.{◌≡◌, ℕ, List, ap}
use Rattle.std.specs.Prelude.{slice_index_or, slice_set}
use Rattle.push_model.specs.declared.ids.MsgId.{MsgId}
use Rattle.push_model.specs.SessionKey.{SessionKey}
use Rattle.push_model.specs.Keyed.{with_first, FoundAt}
use Rattle.push_model.specs.Cells.{Saver, is_saver}
use Rattle.push_model.specs.SaverSteps.{with_held, with_saved}
use Rattle.push_model.proofs.KeyedLemmas.{changed_at, first_at}
use Rattle.shutdown_save.specs.Savers.{held_by, held_of, rest}

module _ (s : SessionKey) (vs : List Saver) (i : ℕ) (v : Saver) (at : FoundAt (is_saver s) vs i) (is : v ≡ slice_index_or vs i v) where
  -- it leaves its next message
  pub left_at : slice_set vs i (with_held (rest v.held) v) ≡ with_first (is_saver s) (with_held (rest (held_by s vs))) vs
  left_at = rw (ap held_of (first_at (is_saver s) vs i v at is)) (changed_at (is_saver s) (with_held (rest v.held)) vs i v at is)

  -- it saves its next message
  pub saved_at : (id : MsgId) → slice_set vs i (with_saved id (rest v.held) v) ≡ with_first (is_saver s) (with_saved id (rest (held_by s vs))) vs
  saved_at id = rw (ap held_of (first_at (is_saver s) vs i v at is)) (changed_at (is_saver s) (with_saved id (rest v.held)) vs i v at is)
