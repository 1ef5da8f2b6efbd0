-- Calls of a sink, one after the other.
use Rattle.std.proofs.Common.{◌≡◌, ℕ, ◌+◌, ◌≤◌, ◌^◌, ◌-◌, min, ap, ◌⊎◌, inl, inr, subst, ◌∙◌}
use Rattle.push_outside.specs.Counts.{Rose}
use Rattle.autopush_main.specs.Known.{BreaksOff, CausedBy, LullsOut, NoFault, bound}
use Rattle.autopush_main.specs.declared.endings.Fault.{Fault}
use Rattle.autopush_main.specs.declared.endings.Fault.TheVariants.{Failed, Waited}
use Rattle.serve_run.specs.Serves.{BlamesOutput}
use Rattle.serve_run.specs.declared.ends.ServeEnd.{ServeEnd}
use Rattle.serve_run.specs.declared.ends.ServeEnd.TheVariants.{Done, Halted, ReadFault, WriteFault, NoMemory}

lulls_then : (l m n : ℕ) → (m ≡ 0) ⊎ (m ≡ l) → (n ≡ 0) ⊎ (n ≡ m) → (n ≡ 0) ⊎ (n ≡ l)
lulls_then l m n first (inl none) = inl none
lulls_then l m n (inl none) (inr same) = inl (same ∙ none)
lulls_then l m n (inr kept) (inr same) = inr (same ∙ kept)

pub no_fault_then : (f g h l m n : ℕ) → NoFault f g l m → NoFault g h m n → NoFault f h l n
no_fault_then f g h l m n a b = record { same = b.same ∙ a.same; no_lull = lulls_then l m n a.no_lull b.no_lull }

out_then : (l m n : ℕ) → (m ≡ 0) ⊎ (m ≡ l) → LullsOut m n → LullsOut l n
out_then l m n kept (inl full) = inl full
out_then l m n (inl none) (inr more) = inl (more ∙ ap (λ (z : ℕ). min (z + bound) (2 ^ 64 - 1)) none)
out_then l m n (inr same) (inr more) = inr (more ∙ ap (λ (z : ℕ). min (z + bound) (2 ^ 64 - 1)) same)

breaks_then : (fault : Fault) (f g h l m n : ℕ) → NoFault f g l m → BreaksOff fault g h m n → BreaksOff fault f h l n
breaks_then Failed f g h l m n a b = (subst (λ (z : ℕ). Rose z h) a.same b.0, b.1)
breaks_then Waited f g h l m n a b = (b.0 ∙ a.same, out_then l m n a.no_lull b.1)

pub caused_then : (fault : Fault) (f g h l m n : ℕ) → NoFault f g l m → CausedBy fault g h m n → CausedBy fault f h l n
caused_then fault f g h l m n a b =
    record { never_falls = subst (λ (z : ℕ). z ≤ h) a.same b.never_falls; how = breaks_then fault f g h l m n a b.how }

pub blames_then : (end : ServeEnd) (f g h l m n : ℕ) → NoFault f g l m → BlamesOutput end g h m n → BlamesOutput end f h l n
blames_then (WriteFault fault) f g h l m n a b = caused_then fault f g h l m n a b
blames_then Done f g h l m n a b = no_fault_then f g h l m n a b
blames_then (Halted halt) f g h l m n a b = no_fault_then f g h l m n a b
blames_then (ReadFault fault) f g h l m n a b = no_fault_then f g h l m n a b
blames_then NoMemory f g h l m n a b = no_fault_then f g h l m n a b
