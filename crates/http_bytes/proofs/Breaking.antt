-- Faults behind what was taken, and by other words.
use Rattle.std.proofs.Common.{ℕ, ◌≤◌, List, ◌++◌, Option, Result, Ok, Err, arith}
use Rattle.http_bytes.specs.Moves.{Takes}
use Rattle.http_bytes.specs.Breaks.{Stops, StopsAtEnd, Breaks}
use Rattle.http_bytes.specs.Causes.{CausedBy}
use Rattle.http_bytes.specs.declared.fault.WireFault.{WireFault}
use Rattle.http_bytes.specs.declared.fault.WireFault.TheVariants.{Ended, BadHead, HeadTooLong, Truncated, Idle, ReadFault, WriteFault, NoMemory}
use Rattle.http_bytes.proofs.Flow.{Moves-behind, MovesAll-behind}

Stops-behind : (a b c : Option (List ℕ)) (x y t : List ℕ) (P Q : List ℕ → Type 0) → ((s : List ℕ) → P s → Q (t ++ s)) → Takes a b x y t → Stops b c y P → Stops a c x Q
Stops-behind a b c x y t P Q f h k = record { seen = t ++ k.seen; moved = Moves-behind a b c x y t k.seen h k.moved; at = f k.seen k.at }

StopsAtEnd-behind : (a b c : Option (List ℕ)) (x y t : List ℕ) (P Q : List ℕ → Type 0) → ((s : List ℕ) → P s → Q (t ++ s)) → Takes a b x y t → StopsAtEnd b c y P → StopsAtEnd a c x Q
StopsAtEnd-behind a b c x y t P Q f h k = record { seen = t ++ k.seen; moved = MovesAll-behind a b c x y t k.seen h k.moved; at = f k.seen k.at }

-- a fault behind what was taken is a fault of the whole
pub Breaks-behind : (fault : WireFault) (a b c : Option (List ℕ)) (x y t : List ℕ) (P Q R S : List ℕ → Type 0)
    → ((s : List ℕ) → P s → R (t ++ s)) → ((s : List ℕ) → Q s → S (t ++ s)) → Takes a b x y t → Breaks fault b c y P Q → Breaks fault a c x R S
Breaks-behind Truncated a b c x y t P Q R S f g h k = StopsAtEnd-behind a b c x y t P R f h k
Breaks-behind BadHead a b c x y t P Q R S f g h k = Stops-behind a b c x y t Q S g h k
Breaks-behind Idle a b c x y t P Q R S f g h k = Stops-behind a b c x y t P R f h k
Breaks-behind ReadFault a b c x y t P Q R S f g h k = Stops-behind a b c x y t P R f h k
Breaks-behind NoMemory a b c x y t P Q R S f g h k = tt
Breaks-behind Ended a b c x y t P Q R S f g h k = absurd k
Breaks-behind HeadTooLong a b c x y t P Q R S f g h k = absurd k
Breaks-behind WriteFault a b c x y t P Q R S f g h k = absurd k

Stops-as : (a b : Option (List ℕ)) (x : List ℕ) (P Q : List ℕ → Type 0) → ((s : List ℕ) → P s → Q s) → Stops a b x P → Stops a b x Q
Stops-as a b x P Q f k = record { seen = k.seen; moved = k.moved; at = f k.seen k.at }

StopsAtEnd-as : (a b : Option (List ℕ)) (x : List ℕ) (P Q : List ℕ → Type 0) → ((s : List ℕ) → P s → Q s) → StopsAtEnd a b x P → StopsAtEnd a b x Q
StopsAtEnd-as a b x P Q f k = record { seen = k.seen; moved = k.moved; at = f k.seen k.at }

-- the same fault, said of the bytes in other words
pub Breaks-as : (fault : WireFault) (a b : Option (List ℕ)) (x : List ℕ) (P Q R S : List ℕ → Type 0)
    → ((s : List ℕ) → P s → R s) → ((s : List ℕ) → Q s → S s) → Breaks fault a b x P Q → Breaks fault a b x R S
Breaks-as Truncated a b x P Q R S f g k = StopsAtEnd-as a b x P R f k
Breaks-as BadHead a b x P Q R S f g k = Stops-as a b x Q S g k
Breaks-as Idle a b x P Q R S f g k = Stops-as a b x P R f k
Breaks-as ReadFault a b x P Q R S f g k = Stops-as a b x P R f k
Breaks-as NoMemory a b x P Q R S f g k = tt
Breaks-as Ended a b x P Q R S f g k = absurd k
Breaks-as HeadTooLong a b x P Q R S f g k = absurd k
Breaks-as WriteFault a b x P Q R S f g k = absurd k

-- the count of faults over one call more
pub caused_on : {A : Type 0} (r : Result A WireFault) (a b c n : ℕ) → a ≤ b → CausedBy r b c n → CausedBy r a c n
caused_on (Ok v) a b c n h k = omega arith
caused_on (Err Ended) a b c n h k = omega arith
caused_on (Err BadHead) a b c n h k = omega arith
caused_on (Err HeadTooLong) a b c n h k = omega arith
caused_on (Err Truncated) a b c n h k = omega arith
caused_on (Err Idle) a b c n h k = (omega (arith, k.0), k.1)
caused_on (Err ReadFault) a b c n h k = (omega (arith, k.0), omega (arith, k.1))
caused_on (Err WriteFault) a b c n h k = (omega (arith, k.0), omega (arith, k.1))
caused_on (Err NoMemory) a b c n h k = omega arith
