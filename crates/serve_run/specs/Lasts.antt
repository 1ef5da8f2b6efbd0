-- How a service ends whose operator's lines have ended.
use Rattle.std.specs.Prelude.{◌≡◌, ℕ, List, Option, Some, None, Result, Ok, Err}
use Rattle.std.specs.Io.KnownBytes.{Appends}
use Rattle.push_model.specs.Worlds.{World}
use Rattle.autopush_main.specs.Known.{AppendsFront}
use Rattle.node_control.specs.declared.ends.ControlEnd.{ControlEnd}
use Rattle.node_control.specs.declared.ends.ControlEnd.TheVariants as control
use Rattle.serve_run.specs.Sums.{sums_text}
use Rattle.serve_run.specs.declared.halt.Halt.{Halt}
use Rattle.serve_run.specs.declared.ends.ServeEnd.{ServeEnd}
use Rattle.serve_run.specs.declared.ends.ServeEnd.TheVariants.{Done, Halted, ReadFault, WriteFault, NoMemory}

-- the lines of the sums were written, or a front of them
abbrev pub LastTold : ServeEnd → Option (List World) → Option (List ℕ) → Option (List ℕ) → Type 0
LastTold Done (Some ws) held now = Appends held now (sums_text ws)
LastTold Done None held now = ⊥
LastTold (WriteFault f) (Some ws) held now = AppendsFront held now (sums_text ws)
LastTold (WriteFault f) None held now = ⊥
LastTold NoMemory (Some ws) held now = AppendsFront held now (sums_text ws)
LastTold NoMemory None held now = now ≡ held
LastTold (Halted halt) shards held now = ⊥
LastTold (ReadFault f) shards held now = ⊥

-- by how the operator's lines ended
abbrev pub EndsAs : ServeEnd → ControlEnd → Option (List World) → Option (List ℕ) → Option (List ℕ) → Type 0
EndsAs end control.Done shards held now = LastTold end shards held now
EndsAs end (control.ReadFault f) shards held now = (end ≡ ReadFault f) × (now ≡ held)
EndsAs end (control.WriteFault f) shards held now = (end ≡ WriteFault f) × (now ≡ held)
EndsAs end control.NoMemory shards held now = (end ≡ NoMemory) × (now ≡ held)

abbrev pub EndsSo : ServeEnd → Result ControlEnd Halt → Option (List World) → Option (List ℕ) → Option (List ℕ) → Type 0
EndsSo end (Ok control) shards held now = EndsAs end control shards held now
EndsSo end (Err halt) shards held now = (end ≡ Halted halt) × (now ≡ held)
