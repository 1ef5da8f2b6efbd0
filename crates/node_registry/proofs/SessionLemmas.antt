-- A step on each session, as one more is read.
use Rattle.std.proofs.Common.{◌≡◌, ℕ, ◌+◌, ◌<◌, ◌++◌, List, length, get_or, set, take, drop}
use Rattle.std.proofs.lemmas.List.Edits.{map_over_more}
use Rattle.std.specs.Prelude.{map}
use Rattle.push_model.specs.declared.ids.ChannelId.{ChannelId}
use Rattle.push_model.specs.Sessions.{Session, forgot}

-- one more session was sent nothing of that channel
pub forgot_more : (c : ChannelId) (xs ys : List Session) (i : ℕ) (x : Session) → i < length xs → ys ≡ map (forgot c) (take i xs) ++ drop i xs → x ≡ get_or ys i x →
    set ys i (forgot c x) ≡ map (forgot c) (take (i + 1) xs) ++ drop (i + 1) xs
forgot_more c xs ys i x lt e is = map_over_more (forgot c) xs ys i x lt e is
