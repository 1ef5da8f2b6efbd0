-- The cause of each fault of a wire.
use Rattle.std.specs.Prelude.{◌≡◌, ℕ, ◌≤◌, Result, Ok, Err}
use Rattle.push_outside.specs.Counts.{Rose}
use Rattle.http_bytes.specs.declared.fault.WireFault.{WireFault}
use Rattle.http_bytes.specs.declared.fault.WireFault.TheVariants.{Ended, BadHead, HeadTooLong, Truncated, Idle, ReadFault, WriteFault, NoMemory}

-- after reads: the count of faults doesn't fall; at a fault of the wire it rose, and at Idle there were 1,000 lulls in a row
abbrev pub CausedBy : {A : Type 0} → Result A WireFault → ℕ → ℕ → ℕ → Type 0
CausedBy (Ok a) before now lulls = before ≤ now
CausedBy (Err Ended) before now lulls = before ≤ now
CausedBy (Err BadHead) before now lulls = before ≤ now
CausedBy (Err HeadTooLong) before now lulls = before ≤ now
CausedBy (Err Truncated) before now lulls = before ≤ now
CausedBy (Err Idle) before now lulls = (before ≤ now) × (1000 ≤ lulls)
CausedBy (Err ReadFault) before now lulls = (before ≤ now) × Rose before now
CausedBy (Err WriteFault) before now lulls = (before ≤ now) × Rose before now
CausedBy (Err NoMemory) before now lulls = before ≤ now

-- after writes, which have three faults: the count of faults rose at WriteFault, and else stays
abbrev pub CausedByWrites : {A : Type 0} → Result A WireFault → ℕ → ℕ → ℕ → Type 0
CausedByWrites (Ok a) before now lulls = now ≡ before
CausedByWrites (Err Ended) before now lulls = ⊥
CausedByWrites (Err BadHead) before now lulls = ⊥
CausedByWrites (Err HeadTooLong) before now lulls = ⊥
CausedByWrites (Err Truncated) before now lulls = ⊥
CausedByWrites (Err Idle) before now lulls = (now ≡ before) × (1000 ≤ lulls)
CausedByWrites (Err ReadFault) before now lulls = ⊥
CausedByWrites (Err WriteFault) before now lulls = (before ≤ now) × Rose before now
CausedByWrites (Err NoMemory) before now lulls = now ≡ before
