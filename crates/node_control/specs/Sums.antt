-- A sum of reports with one more; each number stays at its greatest value.
use Rattle.std.specs.Prelude.{◌+◌}
use Rattle.push_model.specs.Tallies.{capped}
use Rattle.push_model.specs.declared.counts.Counts.{Counts}

abbrev pub counts_with : Counts → Counts → Counts
counts_with s c =
    record {
      users = capped (s.users + c.users);
      stored = capped (s.stored + c.stored);
      held = capped (s.held + c.held);
      flights = capped (s.flights + c.flights);
      unsent = capped (s.unsent + c.unsent);
      orphans = capped (s.orphans + c.orphans);
      waiting = capped (s.waiting + c.waiting);
    }
