use Rattle.std.proofs.Common.{◌∙◌, ap, rules}
use Rattle.std.specs.Prelude.{filter}
use Rattle.std.proofs.lemmas.Fn.{filter_same}
use Rattle.channel_rows.specs.Channels.{is_other}
use Rattle.channel_rows.proofs.Channels.remove.Goals as goal

pub returns-clause-rows : goal.returns-clause-rows
returns-clause-rows c =
    filter_same _ (is_other c.args.chid) _ (λ x b f k. search rules) _ _ c.retain.ensures.filtered ∙ ap (filter (is_other c.args.chid)) c.self.view_is
