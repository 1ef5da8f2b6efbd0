-- A connection, from its first request to its end.
use Rattle.std.specs.Prelude.{◌≡◌, ◌⊎◌, ℕ, ◌+◌, ◌≤◌, true, List, [], ◌∷◌, ◌++◌, Option, Some, None, Err, ⊤}
use Rattle.std.specs.List.{list_any}
use Rattle.std.specs.Io.KnownBytes.{Appends, Keeps}
use Rattle.push_model.specs.DeskViews.{Calls, DeskView, Made}
use Rattle.push_outside.specs.Counts.{Rose}
use Rattle.http_bytes.specs.declared.fault.WireFault.{WireFault}
use Rattle.http_bytes.specs.declared.fault.WireFault.TheVariants.{Ended, BadHead, HeadTooLong, Truncated, Idle, ReadFault, WriteFault, NoMemory}
use Rattle.http_bytes.specs.Causes.{CausedBy}
use Rattle.http_bytes.specs.Moves.{Takes}
use Rattle.http_bytes.specs.Puts.{AppendsFront}
use Rattle.http_wire.specs.Requests.{BreaksRequest}
use Rattle.endpoint_router.specs.Went.{is_lost}
use Rattle.http_front.specs.declared.ends.HttpEnd.{HttpEnd}
use Rattle.http_front.specs.declared.ends.HttpEnd.TheVariants.{Fault, Asked, Limit, LongBody, OpsSpent}
use Rattle.http_front.specs.declared.ops.Ops.{Ops}
use Rattle.http_front.specs.Exchanges.{Exchange, IsAnswered, OnlyPosts, exchange_end, numbers_used, spent_end}
use Rattle.http_front.specs.Rows.{refusal, refusal_text}

-- ---- what is seen of a connection

-- the desks, the link's count of faults, what the wire has left and has written, and the number of the next flight
pub record Scene : Type 0 where
  pub desks : DeskView
  pub losses : ℕ
  pub left : Option (List ℕ)
  pub written : Option (List ℕ)
  pub number : ℕ

abbrev pub scene : {D L W : Type 0} → (D → DeskView) → (L → ℕ) → (W → Option (List ℕ)) → (W → Option (List ℕ)) → D → L → W → Ops → Scene
scene view losses left written desks link wire ops =
    record { desks = view desks; losses = losses link; left = left wire; written = written wire; number = ops.k }

-- ---- exchanges, one after the other

abbrev pub texts_of : List Exchange → List ℕ
texts_of [] = []
texts_of (x ∷ xs) = x.text ++ texts_of xs

abbrev pub replies_of : List Exchange → List ℕ
replies_of [] = []
replies_of (x ∷ xs) = x.reply ++ replies_of xs

abbrev pub entries_of : List Exchange → List Made
entries_of [] = []
entries_of (x ∷ xs) = x.entries ++ entries_of xs

abbrev pub numbers_of : List Exchange → ℕ
numbers_of [] = 0
numbers_of (x ∷ xs) = numbers_used x.outcome + numbers_of xs

-- Each request was answered where nothing had ended the connection before: `now` is what had, so far, `count` how many had been
-- answered, and n the number of the next flight. `last` is what ends the connection after them, if anything does.
abbrev pub AreAnswered : DeskView → Option ℕ → Option HttpEnd → ℕ → ℕ → List Exchange → Option HttpEnd → Type 0
AreAnswered v moment now count n [] last = last ≡ now
AreAnswered v moment now count n (x ∷ xs) last =
    (now ≡ None) × IsAnswered v moment (count + 1) n x
    × AreAnswered v moment (exchange_end x (count + 1) n) (count + 1) (n + numbers_used x.outcome) xs last

-- ---- the end after an answer

-- the texts were read, and the replies written whole
pub record Replied (xs : List Exchange) (a b : Scene) : Type 0 where
  pub kept : List ℕ
  pub takes : Takes a.left b.left [] kept (texts_of xs)
  pub replied : Appends a.written b.written (replies_of xs)

abbrev pub EndsAfter : HttpEnd → Option HttpEnd → List Exchange → Scene → Scene → Type 0
EndsAfter end last xs a b = (last ≡ Some end) × Replied xs a b

-- ---- the end where a request isn't read

-- a fault of a write
abbrev pub IsOfWrite : WireFault → Type 0
IsOfWrite Idle = ⊤
IsOfWrite WriteFault = ⊤
IsOfWrite NoMemory = ⊤
IsOfWrite Ended = ⊥
IsOfWrite BadHead = ⊥
IsOfWrite HeadTooLong = ⊥
IsOfWrite Truncated = ⊥
IsOfWrite ReadFault = ⊥

-- the text was written, and the connection ends for that reason; or a front of it was, and writing is the reason
abbrev pub TellsWhy : WireFault → WireFault → List ℕ → Option (List ℕ) → Option (List ℕ) → Type 0
TellsWhy why fault text old new = ((fault ≡ why) × Appends old new text) ⊎ (IsOfWrite fault × AppendsFront old new text)

-- of bytes that are no request, and of a head that is too long, the sender is told
abbrev pub FaultTold : WireFault → WireFault → Option (List ℕ) → Option (List ℕ) → Type 0
FaultTold BadHead fault old new = TellsWhy BadHead fault (refusal_text (refusal 400 100) true) old new
FaultTold HeadTooLong fault old new = TellsWhy HeadTooLong fault (refusal_text (refusal 431 107) true) old new
FaultTold why fault old new = (fault ≡ why) × Keeps old new

-- Behind the exchanges, of which none is the last, reading broke off.
pub record BreaksReading (fault : WireFault) (last : Option HttpEnd) (xs : List Exchange) (a b : Scene) : Type 0 where
  pub goes_on : last ≡ None
  pub kept : List ℕ
  pub left : Option (List ℕ)
  pub written : Option (List ℕ)
  pub takes : Takes a.left left [] kept (texts_of xs)
  pub replied : Appends a.written written (replies_of xs)
  pub why : WireFault
  pub breaks : BreaksRequest why left b.left kept
  pub told : FaultTold why fault written b.written

-- ---- the end where an answer isn't written

-- A front of the last reply was written.
pub record BreaksWriting (fault : WireFault) (xs : List Exchange) (a b : Scene) : Type 0 where
  pub of_write : IsOfWrite fault
  pub kept : List ℕ
  pub takes : Takes a.left b.left [] kept (texts_of xs)
  pub whole : List Exchange
  pub cut : Exchange
  pub parts : xs ≡ whole ++ cut ∷ []
  pub written : Option (List ℕ)
  pub replied : Appends a.written written (replies_of whole)
  pub front : AppendsFront written b.written cut.reply

-- ---- the whole of it

abbrev pub EndsSo : HttpEnd → Option HttpEnd → List Exchange → Scene → Scene → Type 0
EndsSo (Fault fault) last xs a b = BreaksReading fault last xs a b ⊎ BreaksWriting fault xs a b
EndsSo Asked last xs a b = EndsAfter Asked last xs a b
EndsSo Limit last xs a b = EndsAfter Limit last xs a b
EndsSo LongBody last xs a b = EndsAfter LongBody last xs a b
EndsSo OpsSpent last xs a b = EndsAfter OpsSpent last xs a b

-- Requests were read and answered in order. The own entries that came are those of their routes, shard by shard in that order; where
-- one of them is a Lost the link's count of faults rose; of mail nothing was done but that bits were set.
pub record Served (moment : Option ℕ) (end : HttpEnd) (a b : Scene) : Type 0 where
  pub exchanges : List Exchange
  pub last : Option HttpEnd
  pub answered : AreAnswered a.desks moment (spent_end a.number) 0 a.number exchanges last
  pub calls : Calls a.desks b.desks (entries_of exchanges)
  pub mail : OnlyPosts a.desks b.desks
  pub losses : list_any is_lost (entries_of exchanges) ≡ true → Rose a.losses b.losses
  pub numbers : b.number ≡ a.number + numbers_of exchanges
  pub ends : EndsSo end last exchanges a b

-- ---- the cause of the end

-- the wire's count of faults doesn't fall; each fault has its cause
abbrev pub EndCausedBy : HttpEnd → ℕ → ℕ → ℕ → Type 0
EndCausedBy (Fault fault) before now lulls = CausedBy {A = ℕ} (Err fault) before now lulls
EndCausedBy end before now lulls = before ≤ now
