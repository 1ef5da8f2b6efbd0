-- Why a saver leaves a message.
use Rattle.std.specs.Prelude.{ℕ, not, ◌==◌, Option, Some, None, if◌then◌else◌}
use Rattle.std.specs.List.{list_any}
use Rattle.push_model.specs.declared.standing.Verdict.{Verdict}
use Rattle.push_model.specs.declared.standing.Verdict.TheVariants.{Stays, Older, Full, Joins}
use Rattle.push_model.specs.declared.reply.Reason.{Reason}
use Rattle.push_model.specs.declared.reply.Reason.TheVariants.{Channel as ChannelGone, Zero, Expired, Replaced}
use Rattle.push_model.specs.MessageValue.{MessageValue}
use Rattle.push_model.specs.Messages.{is_expired}
use Rattle.push_model.specs.Rows.{verdict}
use Rattle.push_model.specs.Cells.{User, channels_of, is_channel, rows_of}

abbrev pub left_by : Verdict → Option Reason
left_by Stays = None
left_by Older = Some Replaced
left_by Full = None
left_by Joins = None

-- why the message is left, if it is
abbrev pub left_for : ℕ → MessageValue → Option User → Option Reason
left_for moment m user =
    if not (list_any (is_channel m.chid) (channels_of user))
    then Some ChannelGone
    else if m.ask.terms.ttl == 0
    then Some Zero
    else if is_expired moment m
    then Some Expired
    else left_by (verdict m (rows_of user))
