-- Counts that rise together.
use Rattle.std.specs.Prelude.{ℕ, zero, suc, ◌≡◌}
use Rattle.push_outside.specs.Counts.{next_count}

-- a count that was raised so many times
unfoldable pub raised : ℕ → ℕ → ℕ
raised zero n = n
raised (suc k) n = next_count (raised k n)

-- both counts were raised the same number of times
abbrev pub RoseTogether : ℕ → ℕ → ℕ → ℕ → Type 0
RoseTogether a a' b b' = (k : ℕ) × (a' ≡ raised k a) × (b' ≡ raised k b)
