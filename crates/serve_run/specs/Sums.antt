-- The last two lines of a service.
use Rattle.std.specs.Prelude.{ℕ, List, ◌++◌, map}
use Rattle.push_model.specs.Worlds.{World}
use Rattle.push_model.specs.ShardSteps.{counts}
use Rattle.push_model.specs.declared.reply.Reply.TheVariants.{Counts}
use Rattle.schedule_text.specs.Replies.{reply_line}
use Rattle.node_control.specs.Tallies.{tally_line}
use Rattle.push_exchange.specs.Sums.{all_counts, all_tallies}

-- the report and the tally of these worlds, summed up
abbrev pub sums_text : List World → List ℕ
sums_text ws = reply_line (Counts (all_counts (map counts ws))) ++ tally_line (all_tallies (map (λ w. w.tally) ws))
