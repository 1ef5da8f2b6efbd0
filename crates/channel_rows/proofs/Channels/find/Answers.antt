use Rattle.std.proofs.Common.{◌≡◌, Some}
use Rattle.std.specs.Prelude.{find}
use Rattle.push_model.specs.Cells.{is_channel}
use Rattle.channel_rows.proofs.ChannelLemmas.{found_by_id}
use Rattle.channel_rows.proofs.Channels.find.Goals as goal

pub returns-in-Some-clause-found : goal.returns-in-Some-clause-found
returns-in-Some-clause-found c =
    let found : find (is_channel c.args.chid) c.args.self.now ≡ Some c.in-Some.row.now = cc c.in-Some.ensures in
    found_by_id _ _ _ found
