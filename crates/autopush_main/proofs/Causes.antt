-- Calls with no fault, one after another, and a fault behind them.
use Rattle.std.proofs.Common.{◌≡◌, ℕ, ◌+◌, ◌-◌, ◌^◌, ◌<◌, min, refl, subst, ◌∙◌, arith, inl, inr, ◌⊎◌}
use Rattle.push_outside.specs.Counts.{Rose}
use Rattle.autopush_main.specs.Known.{LullsOut, NoFault, BreaksOff, CausedBy}
use Rattle.autopush_main.specs.Turns.{BlamesSink, BlamesSourceEnd}
use Rattle.autopush_main.specs.declared.endings.Fault.{Fault}
use Rattle.autopush_main.specs.declared.endings.Fault.TheVariants.{Failed, Waited}
use Rattle.autopush_main.specs.declared.endings.End.{End}
use Rattle.autopush_main.specs.declared.endings.End.TheVariants as ends

pub no_call : (f l : ℕ) → NoFault f f l l
no_call f l = record { same = refl; no_lull = inr refl }

no_lull-then : (l m n : ℕ) → (m ≡ 0) ⊎ (m ≡ l) → (n ≡ 0) ⊎ (n ≡ m) → (n ≡ 0) ⊎ (n ≡ l)
no_lull-then l m n a (inl none) = inl none
no_lull-then l m n (inl none) (inr same) = inl (same ∙ none)
no_lull-then l m n (inr was) (inr same) = inr (same ∙ was)

pub NoFault-then : (f g h l m n : ℕ) → NoFault f g l m → NoFault g h m n → NoFault f h l n
NoFault-then f g h l m n a b = record { same = b.same ∙ a.same; no_lull = no_lull-then l m n a.no_lull b.no_lull }

lulls_out-then : (l m n : ℕ) → (m ≡ 0) ⊎ (m ≡ l) → LullsOut m n → LullsOut l n
lulls_out-then l m n a (inl full) = inl full
lulls_out-then l m n (inl none) (inr more) = inl (omega arith)
lulls_out-then l m n (inr was) (inr more) = inr (omega arith)

breaks-then : (fault : Fault) (f g h l m n : ℕ) → NoFault f g l m → BreaksOff fault g h m n → BreaksOff fault f h l n
breaks-then Failed f g h l m n a b = (subst (λ (k : ℕ). Rose k h) a.same b.0, b.1)
breaks-then Waited f g h l m n a b = (b.0 ∙ a.same, lulls_out-then l m n a.no_lull b.1)

pub CausedBy-then : (fault : Fault) (f g h l m n : ℕ) → NoFault f g l m → CausedBy fault g h m n → CausedBy fault f h l n
CausedBy-then fault f g h l m n a b = record { never_falls = omega arith; how = breaks-then fault f g h l m n a b.how }

-- ---- at the end of a replay

pub source_then : (end : End) (f g h l m n : ℕ) → NoFault f g l m → BlamesSourceEnd end g h m n → BlamesSourceEnd end f h l n
source_then ends.Done f g h l m n a b = NoFault-then f g h l m n a b
source_then (ends.Refused r) f g h l m n a b = NoFault-then f g h l m n a b
source_then (ends.ReadFault k) f g h l m n a b = CausedBy-then k f g h l m n a b
source_then (ends.WriteFault k) f g h l m n a b = NoFault-then f g h l m n a b
source_then ends.NoMemory f g h l m n a b = NoFault-then f g h l m n a b

pub sink_then : (end : End) (f g h l m n : ℕ) → NoFault f g l m → BlamesSink end g h m n → BlamesSink end f h l n
sink_then ends.Done f g h l m n a b = NoFault-then f g h l m n a b
sink_then (ends.Refused r) f g h l m n a b = NoFault-then f g h l m n a b
sink_then (ends.ReadFault k) f g h l m n a b = NoFault-then f g h l m n a b
sink_then (ends.WriteFault k) f g h l m n a b = CausedBy-then k f g h l m n a b
sink_then ends.NoMemory f g h l m n a b = NoFault-then f g h l m n a b

-- ---- lulls that are waited out

-- the last k calls were lulls
pub record Waits (k f g l m : ℕ) : Type 0 where
  pub same : g ≡ f
  pub none : k ≡ 0 → m ≡ l
  pub some : 0 < k → m ≡ min (l + k) (2 ^ 64 - 1)
