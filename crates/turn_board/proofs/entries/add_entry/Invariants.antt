use Rattle.std.proofs.Common.{[], ◌∷◌}
use Rattle.push_model.specs.Histories.{entry}
use Rattle.turn_board.proofs.entries.add_entry.Given as goal

abbrev pub ghosts-add_as : goal.ghosts-add_as
ghosts-add_as g a = record { added = entry a.by a.step.now.value a.reply.now ∷ [] }
