-- What a step on one user leaves of the user's channels.
use Rattle.std.specs.Prelude.{◌≡◌, ◌++◌, ◌∷◌, [], List, None, find, filter, not}
use Rattle.push_model.specs.declared.ids.ChannelId.{ChannelId}
use Rattle.push_model.specs.declared.ids.Token.{Token}
use Rattle.push_model.specs.declared.parts.Channel.{Channel}
use Rattle.push_model.specs.declared.step.Step.{Step}
use Rattle.push_model.specs.declared.step.Step.TheVariants.{Register, Unregister, Expire, DropUser}
use Rattle.push_model.specs.declared.reply.Reply.{Reply}
use Rattle.push_model.specs.declared.reply.Reply.TheVariants.{Endpoint, Done, Dropped}
use Rattle.push_model.specs.Cells.{is_channel}

-- from the channels xs to ys: they stay, or the one that is registered comes last, where none had its id
pub data Registered (h : ChannelId) (t : Token) (xs ys : List Channel) (reply : Reply) : Type 0 where
  Same : (same : ys ≡ xs) → Registered h t xs ys reply
  Added : (absent : find (is_channel h) xs ≡ None) → (given : reply ≡ Endpoint t) →
      (last : ys ≡ xs ++ record { chid = h; token = t } ∷ []) → Registered h t xs ys reply

-- where the reply is Done, the others are left
abbrev pub Unregistered : ChannelId → List Channel → List Channel → Reply → Type 0
Unregistered h xs ys Done = ys ≡ filter (λ x. not (is_channel h x)) xs
Unregistered h xs ys _ = ys ≡ xs

-- where the reply is Dropped, none is left
abbrev pub WithUser : List Channel → List Channel → Reply → Type 0
WithUser xs ys Dropped = ys ≡ []
WithUser xs ys _ = ys ≡ xs

-- by the step; all others leave them as they are
abbrev pub LeavesChannels : Step → List Channel → List Channel → Reply → Type 0
LeavesChannels (Register s h t) xs ys r = Registered h t xs ys r
LeavesChannels (Unregister s h) xs ys r = Unregistered h xs ys r
LeavesChannels (Expire u) xs ys r = WithUser xs ys r
LeavesChannels (DropUser u) xs ys r = WithUser xs ys r
LeavesChannels _ xs ys r = ys ≡ xs
