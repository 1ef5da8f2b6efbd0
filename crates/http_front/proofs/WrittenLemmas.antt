-- Where the wire neither failed nor was idle, each reply was written whole, or memory was wanted.
use Rattle.std.proofs.Common.{◌⊎◌, ℕ, ◌<◌, inl, inr, List, [], refl, arith}
use Rattle.std.specs.Prelude.{Option}
use Rattle.std.specs.Io.KnownBytes.{Appends, Keeps}
use Rattle.push_outside.specs.Counts.{Rose}
use Rattle.http_bytes.specs.declared.fault.WireFault.{WireFault}
use Rattle.http_bytes.specs.declared.fault.WireFault.TheVariants.{Ended, BadHead, HeadTooLong, Truncated, Idle, ReadFault, WriteFault, NoMemory}
use Rattle.http_bytes.proofs.Flow.{Appends-none, Keeps-same}
use Rattle.http_front.specs.declared.ends.HttpEnd.{HttpEnd}
use Rattle.http_front.specs.declared.ends.HttpEnd.TheVariants.{Fault, Asked, Limit, LongBody, OpsSpent}
use Rattle.http_front.specs.Exchanges.{Exchange}
use Rattle.http_front.specs.Served.{BreaksReading, EndCausedBy, EndsSo, FaultTold, IsOfWrite, Replied, Scene, Served, TellsWhy}
use Rattle.http_front.specs.Writings.{AreWritten, WantsMemory}

-- some bytes were appended
abbrev SomeAppended : Option (List ℕ) → Option (List ℕ) → Type 0
SomeAppended old new = (told : List ℕ) × Appends old new told

kept_same : (old new : Option (List ℕ)) → Keeps old new → SomeAppended old new
kept_same old new h = ([], Appends-none old new h)

why_told : (why fault : WireFault) (text : List ℕ) (old new : Option (List ℕ)) → TellsWhy why fault text old new → SomeAppended old new
why_told why fault text old new (inl h) = (text, h.1)
why_told why fault text old new (inr h) = (h.1.front, h.1.appended)

fault_told : (why fault : WireFault) (old new : Option (List ℕ)) → FaultTold why fault old new → SomeAppended old new
fault_told BadHead fault old new h = why_told BadHead fault _ old new h
fault_told HeadTooLong fault old new h = why_told HeadTooLong fault _ old new h
fault_told Ended fault old new h = kept_same old new h.1
fault_told Truncated fault old new h = kept_same old new h.1
fault_told Idle fault old new h = kept_same old new h.1
fault_told ReadFault fault old new h = kept_same old new h.1
fault_told WriteFault fault old new h = kept_same old new h.1
fault_told NoMemory fault old new h = kept_same old new h.1

module _ (xs : List Exchange) (a b : Scene) (before now lulls : ℕ) (well : Rose before now → ⊥) (busy : lulls < 1000) where
  whole : Replied xs a b → AreWritten xs a b
  whole h = record { written = b.written; replied = h.replied; told = []; behind = Appends-none b.written b.written (Keeps-same b.written) }

  reading : (fault : WireFault) (last : Option HttpEnd) → BreaksReading fault last xs a b → AreWritten xs a b
  reading fault last h = let t = fault_told h.why fault h.written b.written h.told in record { written = h.written; replied = h.replied; told = t.0; behind = t.1 }

  -- of the faults of a write, one alone is left
  wanted : (fault : WireFault) → IsOfWrite fault → EndCausedBy (Fault fault) before now lulls → WantsMemory (Fault fault)
  wanted Idle w c = absurd (omega (arith, busy, c.1))
  wanted WriteFault w c = absurd (well c.1)
  wanted NoMemory w c = refl
  wanted Ended w c = absurd w
  wanted BadHead w c = absurd w
  wanted HeadTooLong w c = absurd w
  wanted Truncated w c = absurd w
  wanted ReadFault w c = absurd w

  by_end : (end : HttpEnd) (last : Option HttpEnd) → EndsSo end last xs a b → EndCausedBy end before now lulls → AreWritten xs a b ⊎ WantsMemory end
  by_end (Fault fault) last (inl h) c = inl (reading fault last h)
  by_end (Fault fault) last (inr h) c = inr (wanted fault h.of_write c)
  by_end Asked last h c = inl (whole h.1)
  by_end Limit last h c = inl (whole h.1)
  by_end LongBody last h c = inl (whole h.1)
  by_end OpsSpent last h c = inl (whole h.1)

pub written_or_wanted : (moment : Option ℕ) (end : HttpEnd) (a b : Scene) (served : Served moment end a b) (before now lulls : ℕ) → EndCausedBy end before now lulls → (Rose before now → ⊥) → lulls < 1000 →
    AreWritten served.exchanges a b ⊎ WantsMemory end
written_or_wanted moment end a b served before now lulls c well busy = by_end served.exchanges a b before now lulls well busy end served.last served.ends c
