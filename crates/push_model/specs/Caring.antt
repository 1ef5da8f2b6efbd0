-- No nudge is lost: each row that a routed session wasn't sent is covered, and no report counts one that isn't.
use Rattle.std.specs.Prelude.{◌==◌, ◌||◌, not, Bool, false, List}
use Rattle.std.specs.List.{list_all}
use Rattle.push_model.specs.declared.entry.Entry.{Entry}
use Rattle.push_model.specs.declared.step.Step.{Step}
use Rattle.push_model.specs.declared.reply.Reply.{Reply}
use Rattle.push_model.specs.declared.reply.Reply.TheVariants.{Counts}
use Rattle.push_model.specs.Covering.{is_cared_in}
use Rattle.push_model.specs.Kinds.{is_report}
use Rattle.push_model.specs.Worlds.{World}

abbrev pub is_cared : World → Bool
is_cared w = list_all (λ e. is_cared_in e.1) w.cells

-- a report that counts no waiting row
abbrev pub counts_none : Reply → Bool
counts_none (Counts c) = c.waiting == 0
counts_none _ = false

abbrev pub none_waits : Step → Reply → Bool
none_waits x r = not (is_report x) || counts_none r

abbrev pub none_waited : List (Entry Step Reply) → Bool
none_waited entries = list_all (λ e. none_waits e.step e.reply) entries
