use Rattle.push_model.specs.declared.mail.MailChange.TheVariants.{Post}
use Rattle.push_model.specs.MailWords.{mail_entry}
use Rattle.turn_board.proofs.mail_words.post.Given as goal

abbrev pub ghosts-post_as : goal.ghosts-post_as
ghosts-post_as g a = record { written = λ n. mail_entry a.by (Post a.bits) }
