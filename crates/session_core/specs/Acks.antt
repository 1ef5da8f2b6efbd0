-- What an acknowledgement does to a session, by where the message was.
use Rattle.std.specs.Prelude.{◌≡◌, true, false}
use Rattle.push_model.specs.declared.ids.ChannelId.{ChannelId}
use Rattle.push_model.specs.declared.ids.MsgId.{MsgId}
use Rattle.push_model.specs.Sessions.{Session, acked_in, has_direct, was_sent}
use Rattle.session_core.specs.declared.acks.AckAnswer.{AckAnswer}
use Rattle.session_core.specs.declared.acks.AckAnswer.TheVariants.{Direct, Stored, Unknown}

-- the message was shown; or it was sent, and not shown; or neither, and the session stays
abbrev pub IsAcked : ChannelId → MsgId → Session → Session → AckAnswer → Type 0
IsAcked h i old new Direct = (has_direct h i old ≡ true) × (new ≡ acked_in h i old)
IsAcked h i old new Stored = (has_direct h i old ≡ false) × (was_sent h i old ≡ true) × (new ≡ acked_in h i old)
IsAcked h i old new Unknown = (has_direct h i old ≡ false) × (was_sent h i old ≡ false) × (new ≡ old)
