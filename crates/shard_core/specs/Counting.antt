-- The numbers of a report, cell by cell.
use Rattle.std.specs.Prelude.{◌+◌, List, length, sum_by, count_by, is_some, if◌then◌else◌}
use Rattle.push_model.specs.declared.counts.Counts.{Counts}
use Rattle.push_model.specs.Cells.{Cell}
use Rattle.push_model.specs.Covering.{stored_in, held_in, unsent_in, orphans_in, waiting_in}
use Rattle.push_model.specs.Tallies.{capped}

-- the numbers with those of one cell more
abbrev pub counted : Counts → Cell → Counts
counted t c =
    record {
      users = if is_some c.user then capped (t.users + 1) else t.users;
      stored = capped (t.stored + capped (stored_in c));
      held = capped (t.held + capped (held_in c));
      flights = capped (t.flights + capped (length c.flights));
      unsent = capped (t.unsent + capped (unsent_in c));
      orphans = capped (t.orphans + capped (orphans_in c));
      waiting = capped (t.waiting + capped (waiting_in c));
    }

-- the numbers of these cells
abbrev pub counts_of : List Cell → Counts
counts_of cells =
    record {
      users = capped (count_by (λ c. is_some c.user) cells);
      stored = capped (sum_by stored_in cells);
      held = capped (sum_by held_in cells);
      flights = capped (sum_by (λ c. length c.flights) cells);
      unsent = capped (sum_by unsent_in cells);
      orphans = capped (sum_by orphans_in cells);
      waiting = capped (sum_by waiting_in cells);
    }
