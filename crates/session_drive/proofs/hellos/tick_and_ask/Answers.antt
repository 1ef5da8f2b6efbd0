use Rattle.push_model.proofs.DeskLemmas.{calls_more, mails_more}
use Rattle.session_drive.proofs.hellos.tick_and_ask.Goals as goal

pub returns-clause-ticks : goal.returns-clause-ticks
returns-clause-ticks g c = record {
  tick = c.tick.ensures.calls.0;
  calls = calls_more _ _ _ _ _ c.tick.ensures.calls.1 c.ask.ensures.calls;
  mail = mails_more _ _ _ _ _ c.tick.ensures.mail c.ask.ensures.mail;
}
