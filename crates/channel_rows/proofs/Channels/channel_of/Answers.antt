use Rattle.std.proofs.Common.{◌≡◌, Some}
use Rattle.std.specs.Prelude.{find}
use Rattle.push_model.specs.Cells.{is_token}
use Rattle.channel_rows.proofs.ChannelLemmas.{found_by_token}
use Rattle.channel_rows.proofs.Channels.channel_of.Goals as goal

pub returns-in-Some-clause-found : goal.returns-in-Some-clause-found
returns-in-Some-clause-found c =
    let found : find (is_token c.args.token.now) c.args.self.now ≡ Some c.in-Some.row.now = cc c.in-Some.ensures in
    found_by_token _ _ _ found
