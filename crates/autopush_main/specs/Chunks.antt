-- What a read gives where lulls are waited out, and by which cause it breaks off.
use Rattle.std.specs.Prelude.{ℕ, ◌≤◌, List, length, take, Option}
use Rattle.std.specs.Io.KnownBytes.{Consumes, Keeps, IsAtEnd}
use Rattle.autopush_main.specs.Known.{NoFault, CausedBy}
use Rattle.autopush_main.specs.declared.chunk.Chunk.{Chunk}
use Rattle.autopush_main.specs.declared.chunk.Chunk.TheVariants.{Bytes, End, Lost}

abbrev pub ReadsChunk : Chunk → List ℕ → Option (List ℕ) → Option (List ℕ) → Type 0
ReadsChunk (Bytes n) room old new = (1 ≤ n) × (n ≤ length room) × Consumes old new (take n room)
ReadsChunk End room old new = Keeps old new × IsAtEnd old
ReadsChunk (Lost fault) room old new = Keeps old new

-- only `Lost` is a fault
abbrev pub ReadsBy : Chunk → ℕ → ℕ → ℕ → ℕ → Type 0
ReadsBy (Bytes n) faults faults_now lulls lulls_now = NoFault faults faults_now lulls lulls_now
ReadsBy End faults faults_now lulls lulls_now = NoFault faults faults_now lulls lulls_now
ReadsBy (Lost fault) faults faults_now lulls lulls_now = CausedBy fault faults faults_now lulls lulls_now
