-- Sums over several shards. Each stays at its greatest value.
use Rattle.std.specs.Prelude.{◌+◌, List, sum_by}
use Rattle.push_model.specs.declared.counts.Counts.{Counts}
use Rattle.push_model.specs.declared.counts.Tally.{Tally}
use Rattle.push_model.specs.Tallies.{capped}

abbrev pub all_counts : List Counts → Counts
all_counts cs =
    record {
      users = capped (sum_by (λ c. c.users) cs);
      stored = capped (sum_by (λ c. c.stored) cs);
      held = capped (sum_by (λ c. c.held) cs);
      flights = capped (sum_by (λ c. c.flights) cs);
      unsent = capped (sum_by (λ c. c.unsent) cs);
      orphans = capped (sum_by (λ c. c.orphans) cs);
      waiting = capped (sum_by (λ c. c.waiting) cs);
    }

abbrev pub all_tallies : List Tally → Tally
all_tallies ts =
    record {
      begun = capped (sum_by (λ t. t.begun) ts);
      ok = capped (sum_by (λ t. t.ok) ts);
      refused = capped (sum_by (λ t. t.refused) ts);
      stored = capped (sum_by (λ t. t.stored) ts);
      shown = capped (sum_by (λ t. t.shown) ts);
      acked = capped (sum_by (λ t. t.acked) ts);
      saved = capped (sum_by (λ t. t.saved) ts);
      left = capped (sum_by (λ t. t.left) ts);
      lost = capped (sum_by (λ t. t.lost) ts);
    }

-- a sum with one more
abbrev pub counts_with : Counts → Counts → Counts
counts_with s c =
    record {
      users = capped (s.users + c.users);
      stored = capped (s.stored + c.stored);
      held = capped (s.held + c.held);
      flights = capped (s.flights + c.flights);
      unsent = capped (s.unsent + c.unsent);
      orphans = capped (s.orphans + c.orphans);
      waiting = capped (s.waiting + c.waiting);
    }

abbrev pub tally_with : Tally → Tally → Tally
tally_with s t =
    record {
      begun = capped (s.begun + t.begun);
      ok = capped (s.ok + t.ok);
      refused = capped (s.refused + t.refused);
      stored = capped (s.stored + t.stored);
      shown = capped (s.shown + t.shown);
      acked = capped (s.acked + t.acked);
      saved = capped (s.saved + t.saved);
      left = capped (s.left + t.left);
      lost = capped (s.lost + t.lost);
    }
