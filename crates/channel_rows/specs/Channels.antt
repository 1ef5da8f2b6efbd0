-- The tokens of a list of channels, and which channels pass.
use Rattle.std.specs.Prelude.{Bool, List, ◌&&◌, not, map}
use Rattle.push_model.specs.declared.ids.ChannelId.{ChannelId}
use Rattle.push_model.specs.declared.ids.Token.{Token}
use Rattle.push_model.specs.declared.parts.Channel.{Channel}
use Rattle.push_model.specs.Cells.{is_channel, is_token}

-- the channel of that id and token
abbrev pub channel : ChannelId → Token → Channel
channel h t = record { chid = h; token = t }

-- the channel has that id and that token
abbrev pub is_both : ChannelId → Token → Channel → Bool
is_both h t x = is_channel h x && is_token t x

-- the channel has another id
abbrev pub is_other : ChannelId → Channel → Bool
is_other h x = not (is_channel h x)

-- the tokens, in the order of the channels
abbrev pub tokens : List Channel → List Token
tokens xs = map (λ x. x.token) xs
