-- What writes do, and what an outbox has done.
use Rattle.std.specs.Prelude.{◌≡◌, ℕ, ◌≤◌, List, ◌++◌, length, take, Option, Some, None, Result, Ok, Err}
use Rattle.std.specs.Io.KnownBytes.{Appends, Keeps}
use Rattle.http_bytes.specs.Causes.{CausedByWrites}
use Rattle.http_bytes.specs.OutboxValue.{OutboxValue}
use Rattle.http_bytes.specs.declared.fault.WireFault.{WireFault}

-- a front of the piece was appended, or nothing
abbrev pub WritesPiece : Result ℕ WireFault → List ℕ → Option (List ℕ) → Option (List ℕ) → Type 0
WritesPiece (Ok n) piece old new = (1 ≤ n) × (n ≤ length piece) × Appends old new (take n piece)
WritesPiece (Err fault) piece old new = Keeps old new

-- some front of these bytes was appended
pub record AppendsFront (old new : Option (List ℕ)) (bytes : List ℕ) : Type 0 where
  pub front : List ℕ
  pub rest : List ℕ
  pub parts : bytes ≡ front ++ rest
  pub appended : Appends old new front

-- all of the bytes were appended, or a front of them
abbrev pub WritesAll : {A : Type 0} → Result A WireFault → List ℕ → Option (List ℕ) → Option (List ℕ) → Type 0
WritesAll (Ok a) bytes old new = Appends old new bytes
WritesAll (Err fault) bytes old new = AppendsFront old new bytes

-- of a text that was put, all but what waits was written
pub record Sends (start now : Option (List ℕ)) (text held : List ℕ) : Type 0 where
  pub sent : List ℕ
  pub appended : Appends start now sent
  pub parts : text ≡ sent ++ held

-- the same after a fault, where a front was written
abbrev pub IsPutBy : Option WireFault → Option (List ℕ) → Option (List ℕ) → List ℕ → List ℕ → Type 0
IsPutBy None start now text held = Sends start now text held
IsPutBy (Some fault) start now text held = AppendsFront start now text

-- the text was put, since the wire had written `start`
abbrev pub IsPut : Option (List ℕ) → Option (List ℕ) → List ℕ → OutboxValue → Type 0
IsPut start now text box = IsPutBy box.fault start now text box.text

-- the cause of a fault, if there is one
abbrev pub IsBlamedBy : Option WireFault → ℕ → ℕ → ℕ → Type 0
IsBlamedBy None before now lulls = now ≡ before
IsBlamedBy (Some fault) before now lulls = CausedByWrites {A = ℕ} (Err fault) before now lulls

-- the fault, if there is one, has its cause, since the wire's count stood at `before`
abbrev pub IsBlamed : ℕ → ℕ → ℕ → OutboxValue → Type 0
IsBlamed before now lulls box = IsBlamedBy box.fault before now lulls
