-- Numbers of flights that no flight has yet.
use Rattle.std.specs.Prelude.{◌≡◌, ℕ, ◌<◌, List, [], ◌∷◌, Some}
use Rattle.push_model.specs.declared.entry.Entry.{Entry}
use Rattle.push_model.specs.declared.ids.Op.{Op}
use Rattle.push_model.specs.declared.parts.FlightRow.{FlightRow}
use Rattle.push_model.specs.declared.reply.Reply.{Reply}
use Rattle.push_model.specs.declared.step.Step.{Step}
use Rattle.push_model.specs.declared.step.Step.TheVariants.{Begin}
use Rattle.push_model.specs.Frames.{flight_at}
use Rattle.push_model.specs.DeskViews.{DeskView, Made, own_entries}

-- a step that begins a flight begins one below n
abbrev pub IsBelow : ℕ → Step → Type 0
IsBelow n (Begin o t ask) = o.k < n
IsBelow n _ = Unit {0}

abbrev pub AreBelow : ℕ → List (Entry Step Reply) → Type 0
AreBelow n [] = Unit {0}
AreBelow n (e ∷ es) = IsBelow n e.step × AreBelow n es

-- Flights of the number n and above are new on each shard: the own entries began none, and the world that was opened has none of
-- the pass that signs there.
pub record IsAbove (v : DeskView) (n : ℕ) : Type 0 where
  pub own : (k : ℕ) → k < v.size → AreBelow n (own_entries v k)
  pub opened : (k : ℕ) → k < v.size → (o : Op) (f : FlightRow) → flight_at o (v.opened k) ≡ Some f → o.pass ≡ v.number k → o.k < n

-- the same of entries as they were made
abbrev pub AreMadeBelow : ℕ → List Made → Type 0
AreMadeBelow n [] = Unit {0}
AreMadeBelow n (m ∷ ms) = IsBelow n m.step × AreMadeBelow n ms
