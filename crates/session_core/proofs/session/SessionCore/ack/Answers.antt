use Rattle.std.proofs.Common.{refl, sym}
use Rattle.push_model.specs.Messages.{is_message}
use Rattle.push_model.specs.Sessions.{is_sent}
use Rattle.push_model.proofs.KeyedLemmas.{without_first-absent}
use Rattle.session_core.proofs.session.SessionCore.ack.Goals.{then-shown, else-shown+then-sent, else-shown+else-sent}
use Rattle.session_core.proofs.session.SessionCore.ack.Goals as goal

pub returns-clause-answer : goal.returns-clause-answer
returns-clause-answer c =
    rw (c.remove_message-shown.ensures.rest, c.remove-sent.ensures.rest, ← c.self.view_is)
    (elim c.if-shown.branch [
      | then-shown w ↦ rw w.result-is (sym w.if-shown.ensures.found, refl)
      | else-shown+then-sent w ↦ rw w.result-is (sym w.if-shown.ensures.found, sym w.if-sent.ensures.found, refl)
      | else-shown+else-sent w ↦
          rw (w.result-is, without_first-absent (is_message c.args.c c.args.id) _ (sym w.if-shown.ensures.found), without_first-absent (is_sent c.args.c c.args.id) _ (sym w.if-sent.ensures.found))
          (sym w.if-shown.ensures.found, sym w.if-sent.ensures.found, refl)
    ])
