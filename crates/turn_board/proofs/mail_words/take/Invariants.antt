use Rattle.push_model.specs.declared.mail.MailChange.TheVariants.{Taken}
use Rattle.push_model.specs.MailWords.{mail_entry}
use Rattle.turn_board.proofs.mail_words.take.Given as goal

abbrev pub ghosts-take_as : goal.ghosts-take_as
ghosts-take_as g a = record { written = λ n. mail_entry a.by (Taken n) }
