use Rattle.std.proofs.Common.{[], ◌∷◌}
use Rattle.push_model.specs.Histories.{entry}
use Rattle.lone_desk.proofs.notes.note.Given as goal

abbrev pub ghosts-add : goal.ghosts-add
ghosts-add a = record { added = entry 0 a.asked.now.value a.reply.now ∷ [] }
