use Rattle.std.proofs.Common.{ℕ, zero, suc, ◌≡◌, refl, arith}
use Rattle.node_loops.specs.Together.{raised, RoseTogether}
use Rattle.node_loops.proofs.pins.counts_rise_together.Goals as goal

-- a count of 0 that was raised is 0 no more
still : (k b c : ℕ) → 0 ≡ raised k 0 → c ≡ raised k b → c ≡ b
unfolding raised
still zero b c p q = q
still (suc k) b c p q = absurd (omega arith)

pub returns-clause-twice : goal.returns-clause-twice
unfolding raised
returns-clause-twice c = (2, refl, refl)

pub returns-clause-first : goal.returns-clause-first
returns-clause-first c = λ a b h. still h.0 a b h.2 h.1

pub returns-clause-second : goal.returns-clause-second
returns-clause-second c = λ a b h. still h.0 a b h.1 h.2
