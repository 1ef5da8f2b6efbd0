-- The room behind the bytes that are kept.
use Rattle.std.proofs.Common.{◌≡◌, ℕ, ◌+◌, ◌≤◌, ◌<◌, List, ◌++◌, length, take, drop, Option, ap, ◌∙◌, arith, length-append, length-take}
use Rattle.std.proofs.Math.Seq.{take-add}
use Rattle.std.specs.Io.KnownBytes.{Consumes}
use Rattle.http_bytes.specs.Moves.{Moves}

-- bytes were read into the room behind the first
pub filled : (a b : Option (List ℕ)) (old held : List ℕ) (size n : ℕ) → take size held ≡ old → 1 ≤ n → n ≤ length (drop size held) → Consumes a b (take n (drop size held))
    → Moves a b old (take (size + n) held) × (length old < length (take (size + n) held))
filled a b old held size n front some inside input =
    let whole : take (size + n) held ≡ old ++ take n (drop size held) = take-add size n held ∙ ap (λ (t : List ℕ). t ++ take n (drop size held)) front in (
      record { read = take n (drop size held); input = input; joined = whole },
      omega (arith, ap length whole, length-append old (take n (drop size held)), length-take n (drop size held), some, inside),
    )
