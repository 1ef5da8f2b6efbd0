-- An answer that gives something, or nothing, and the counts after it.
use Rattle.std.specs.Prelude.{◌≡◌, ℕ, ◌≤◌, Option, Some, None}
use Rattle.push_outside.specs.Counts.{next_count, Rose}

-- nothing is given only where the count of faults, which does not fall, rose; where something is, it stays
abbrev pub NoneFails : {A : Type 0} → Option A → ℕ → ℕ → Type 0
NoneFails (Some a) before after = after ≡ before
NoneFails None before after = (before ≤ after) × Rose before after

-- how many were given after this answer
abbrev pub count_after : {A : Type 0} → Option A → ℕ → ℕ
count_after (Some a) count = next_count count
count_after None count = count
