-- What one accept does to a listener's counts.
use Rattle.std.specs.Prelude.{◌≡◌, ℕ, ◌≤◌}
use Rattle.push_outside.specs.Counts.{next_count, Rose}
use Rattle.push_ports.specs.declared.listener.Accepted.{Accepted}
use Rattle.push_ports.specs.declared.listener.Accepted.TheVariants.{Got, NotYet, Failed}

-- a failure raised the count of faults, which does not fall; any other answer leaves it as it was
abbrev pub AcceptFails : {W : Type 0} → Accepted W → ℕ → ℕ → Type 0
AcceptFails (Got wire) before after = after ≡ before
AcceptFails NotYet before after = after ≡ before
AcceptFails Failed before after = (before ≤ after) × Rose before after

-- the lulls in a row after this answer
abbrev pub lulls_after_accept : {W : Type 0} → Accepted W → ℕ → ℕ
lulls_after_accept (Got wire) lulls = 0
lulls_after_accept NotYet lulls = next_count lulls
lulls_after_accept Failed lulls = 0

-- how many wires were given after this answer
abbrev pub given_after : {W : Type 0} → Accepted W → ℕ → ℕ
given_after (Got wire) given = next_count given
given_after NotYet given = given
given_after Failed given = given
