-- What the work of one caller leaves of its desks, by none, and by one piece after the other.
use Rattle.std.specs.Prelude.{[], ◌++◌}
use Rattle.push_model.specs.DeskViews.{DeskView}
use Rattle.push_model.proofs.DeskLemmas.{calls_more, calls_none, mails_more, mails_none}
use Rattle.node_sessions.specs.Loops.{GoesOn}

pub on_by_none : (a : DeskView) → GoesOn a a
on_by_none a = record { made = []; calls = calls_none a; written = []; mail = mails_none a }

pub on_by_more : (a b c : DeskView) → GoesOn a b → GoesOn b c → GoesOn a c
on_by_more a b c f g = record {
  made = f.made ++ g.made;
  calls = calls_more a b c f.made g.made f.calls g.calls;
  written = f.written ++ g.written;
  mail = mails_more a b c f.written g.written f.mail g.mail;
}
