-- Waiting for a form, read by read.
use Rattle.std.proofs.Common.{◌≡◌, ◌∙◌, ℕ, ◌+◌, ◌-◌, ◌*◌, ◌≤◌, ◌<◌, List, length, Option, Some, subst, Result, Ok, Err, arith}
use Rattle.http_bytes.specs.Moves.{Moves, MovesAll, Fills, FilledBy, LullsSo}
use Rattle.http_bytes.specs.Waits.{Waits, SettlesSo, GoesOn}
use Rattle.http_bytes.specs.declared.rest.Filled.{Filled}
use Rattle.http_bytes.specs.declared.rest.Filled.TheVariants.{More, End, NotYet, Failed, NoMemory}
use Rattle.http_bytes.specs.declared.wait.Stop.{Stop}
use Rattle.http_bytes.specs.declared.wait.Stop.TheVariants as stop
use Rattle.http_bytes.proofs.Flow.{Moves-then, Moves-kept, MovesAll-end}

-- what was read so far, by the last read
abbrev pub Gathers : Filled → Option (List ℕ) → Option (List ℕ) → List ℕ → List ℕ → Type 0
Gathers More a b x y = Moves a b x y
Gathers NotYet a b x y = Moves a b x y
Gathers Failed a b x y = Moves a b x y
Gathers End a b x y = MovesAll a b x y
Gathers NoMemory a b x y = Moves a b x y

-- the reads that may still come
abbrev pub to_come : Filled → ℕ → ℕ → ℕ
to_come More size lulls = 1 + ((65536 - size) * 1001 + (1000 - lulls))
to_come NotYet size lulls = 1 + ((65536 - size) * 1001 + (1000 - lulls))
to_come End size lulls = 0
to_come Failed size lulls = 0
to_come NoMemory size lulls = 0

-- before another read
pub gathered : (f : Filled) (a b : Option (List ℕ)) (x y : List ℕ) → GoesOn f → Gathers f a b x y → Moves a b x y
gathered More a b x y go h = h
gathered NotYet a b x y go h = h
gathered Failed a b x y go h = absurd go
gathered End a b x y go h = absurd go
gathered NoMemory a b x y go h = absurd go

-- one read more
pub gathers_on : (f : Filled) (a b c : Option (List ℕ)) (x y z : List ℕ) → Moves a b x y → Fills f b c y z → Gathers f a c x z
gathers_on More a b c x y z h k = Moves-then a b c x y z h k.0
gathers_on NotYet a b c x y z h k = Moves-kept a b c x y z h k.0 k.1
gathers_on Failed a b c x y z h k = Moves-kept a b c x y z h k.0 k.1
gathers_on End a b c x y z h k = MovesAll-end a b c x y z h k.0 k.1 k.2
gathers_on NoMemory a b c x y z h k = Moves-kept a b c x y z h k.0 k.1

-- the count of faults stands where it stood, as long as the wait goes on
pub unblamed : (f : Filled) (a b : ℕ) → GoesOn f → FilledBy f a b → b ≡ a
unblamed More a b go h = h
unblamed NotYet a b go h = h
unblamed End a b go h = absurd go
unblamed Failed a b go h = absurd go
unblamed NoMemory a b go h = absurd go

pub blames_on : (f : Filled) (a b c : ℕ) → b ≡ a → FilledBy f b c → FilledBy f a c
blames_on More a b c h k = k ∙ h
blames_on NotYet a b c h k = k ∙ h
blames_on End a b c h k = k ∙ h
blames_on NoMemory a b c h k = k ∙ h
blames_on Failed a b c h k = (omega (arith, h, k.0), grind (arith, h, k.1))

-- the lulls in a row after a read
abbrev pub lulls_on : Filled → ℕ → ℕ
lulls_on More n = 0
lulls_on End n = 0
lulls_on NotYet n = n + 1
lulls_on Failed n = 0
lulls_on NoMemory n = 0

pub comes_nearer : (was f : Filled) (size grown lulls : ℕ) (a b : Option (List ℕ)) (x y : List ℕ) → GoesOn was → lulls < 1000 → length x < 65536 → Fills f a b x y
    → to_come f (length y) (lulls_on f lulls) < to_come was (length x) lulls
comes_nearer More More size grown lulls a b x y go l s h = omega (arith, h.1)
comes_nearer More NotYet size grown lulls a b x y go l s h = rw h.1 (omega arith)
comes_nearer More End size grown lulls a b x y go l s h = omega arith
comes_nearer More Failed size grown lulls a b x y go l s h = omega arith
comes_nearer More NoMemory size grown lulls a b x y go l s h = omega arith
comes_nearer NotYet More size grown lulls a b x y go l s h = omega (arith, h.1)
comes_nearer NotYet NotYet size grown lulls a b x y go l s h = rw h.1 (omega arith)
comes_nearer NotYet End size grown lulls a b x y go l s h = omega arith
comes_nearer NotYet Failed size grown lulls a b x y go l s h = omega arith
comes_nearer NotYet NoMemory size grown lulls a b x y go l s h = omega arith
comes_nearer End f size grown lulls a b x y go l s h = absurd go
comes_nearer Failed f size grown lulls a b x y go l s h = absurd go
comes_nearer NoMemory f size grown lulls a b x y go l s h = absurd go

-- the wait's own count of lulls is not above the wire's
pub idle_on : (f : Filled) (n a b : ℕ) → n < 1000 → n ≤ a → LullsSo f a b → lulls_on f n ≤ b
idle_on NotYet n a b few h k = rw k (omega arith)
idle_on More n a b few h k = omega arith
idle_on End n a b few h k = omega arith
idle_on Failed n a b few h k = omega arith
idle_on NoMemory n a b few h k = omega arith

-- what was read, whatever the last read was
pub gathered_all : (f : Filled) (a b : Option (List ℕ)) (x y : List ℕ) → Gathers f a b x y → Moves a b x y
gathered_all More a b x y h = h
gathered_all NotYet a b x y h = h
gathered_all Failed a b x y h = h
gathered_all NoMemory a b x y h = h
gathered_all End a b x y h = record { read = h.read; input = h.input; joined = h.joined }

pub settled : {A : Type 0} (r : Result A Stop) (f : Filled) (n size : ℕ) (Found : A → Type 0) (Open Never : Type 0) (a b : Option (List ℕ)) (x y : List ℕ)
    → Gathers f a b x y → SettlesSo (Some r) f n Found Open Never size → Waits r a b x y
settled (Ok v) f n size Found Open Never a b x y h k = gathered_all f a b x y h
settled (Err stop.End) f n size Found Open Never a b x y h k = subst (λ (t : Filled). Gathers t a b x y) k.2 h
settled (Err stop.Full) f n size Found Open Never a b x y h k = gathered_all f a b x y h
settled (Err stop.Bad) f n size Found Open Never a b x y h k = gathered_all f a b x y h
settled (Err stop.Idle) f n size Found Open Never a b x y h k = gathered_all f a b x y h
settled (Err stop.Failed) f n size Found Open Never a b x y h k = gathered_all f a b x y h
settled (Err stop.NoMemory) f n size Found Open Never a b x y h k = gathered_all f a b x y h
