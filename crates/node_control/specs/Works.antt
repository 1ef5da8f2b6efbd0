-- What is made for a control line, on every shard, and the reply that sums up what was replied.
use Rattle.std.specs.Prelude.{◌≡◌, ◌⊎◌, ◌+◌, ℕ, zero, suc, true, List, [], ◌∷◌, ◌++◌, length, sum_by}
use Rattle.push_model.specs.Caring.{counts_none}
use Rattle.push_model.specs.DeskViews.{Made}
use Rattle.push_model.specs.Tallies.{capped}
use Rattle.push_model.specs.declared.counts.Counts.{Counts}
use Rattle.push_model.specs.declared.step.Step.{Step}
use Rattle.push_model.specs.declared.step.Step.TheVariants.{Kill as KillStep, Report as ReportStep, Up as UpStep}
use Rattle.push_model.specs.declared.reply.Reply.{Reply}
use Rattle.push_model.specs.declared.reply.Reply.TheVariants.{Counts as CountsAre, Done, Killed, Unknown as IsUnknown}
use Rattle.node_sweep.specs.Sweeps.{IsCutSweep, IsSweep}
use Rattle.node_control.specs.declared.commands.Command.{Command}
use Rattle.node_control.specs.declared.commands.Command.TheVariants.{Kill, Up, Report, Stop, Unknown}

-- ---- a step on every shard

-- it was made once on each shard from k on, in order
abbrev pub AreFrom : ℕ → Step → List Made → Type 0
AreFrom k x [] = Unit {0}
AreFrom k x (m ∷ ms) = (m.shard ≡ k) × (m.step ≡ x) × AreFrom (k + 1) x ms

-- it was made once on each of so many shards
pub record OnEach (size : ℕ) (x : Step) (ms : List Made) : Type 0 where
  pub count : length ms ≡ size
  pub each : AreFrom 0 x ms

-- ---- a sweep of every shard

-- a sweep of the shard k; one that wanted memory was left there
abbrev pub IsAnySweep : ℕ → List Made → Type 0
IsAnySweep k ms = ((told : ℕ) × (dropped : ℕ) × IsSweep k told dropped ms) ⊎ IsCutSweep k ms

-- one of each of the n shards from k on, in order
abbrev pub AreSwept : ℕ → ℕ → List Made → Type 0
AreSwept k zero ms = ms ≡ []
AreSwept k (suc n) ms = (one : List Made) × (others : List Made) × (ms ≡ one ++ others) × IsAnySweep k one × AreSwept (k + 1) n others

-- ---- sums of what was replied; each stays at its greatest value

abbrev pub held_of : Reply → ℕ
held_of (Killed held orphans) = held
held_of r = 0

abbrev pub orphans_of : Reply → ℕ
orphans_of (Killed held orphans) = orphans
orphans_of r = 0

abbrev pub kills_sum : List Made → Reply
kills_sum ms = Killed (capped (sum_by (λ m. held_of m.reply) ms)) (capped (sum_by (λ m. orphans_of m.reply) ms))

abbrev pub counts_of : Reply → Counts
counts_of (CountsAre c) = c
counts_of r = record { users = 0; stored = 0; held = 0; flights = 0; unsent = 0; orphans = 0; waiting = 0 }

abbrev pub sum_of : (Counts → ℕ) → List Made → ℕ
sum_of part ms = capped (sum_by (λ m. part (counts_of m.reply)) ms)

abbrev pub all_counts : List Made → Counts
all_counts ms =
    record {
      users = sum_of (λ c. c.users) ms;
      stored = sum_of (λ c. c.stored) ms;
      held = sum_of (λ c. c.held) ms;
      flights = sum_of (λ c. c.flights) ms;
      unsent = sum_of (λ c. c.unsent) ms;
      orphans = sum_of (λ c. c.orphans) ms;
      waiting = sum_of (λ c. c.waiting) ms;
    }

-- ---- what a line does at so many shards

-- Every shard was swept, and then each reported. Where what is said of the desks, H, holds, no row waits.
pub record Reports (H : Type 0) (size : ℕ) (ms : List Made) (r : Reply) : Type 0 where
  pub sweeps : List Made
  pub reports : List Made
  pub is : ms ≡ sweeps ++ reports
  pub swept : AreSwept 0 size sweeps
  pub reported : OnEach size ReportStep reports
  pub sums : r ≡ CountsAre (all_counts reports)
  pub none_waits : H → counts_none r ≡ true

-- before its answer is written, which is the line of the reply r
abbrev pub Before : Type 0 → ℕ → Command → List Made → Reply → Type 0
Before H size (Kill n) ms r = OnEach size (KillStep n) ms × (r ≡ kills_sum ms)
Before H size (Up n) ms r = OnEach size (UpStep n) ms × (r ≡ Done)
Before H size Report ms r = Reports H size ms r
Before H size Stop ms r = ⊥
Before H size Unknown ms r = (ms ≡ []) × (r ≡ IsUnknown)

-- and once it is written: after a kill every shard is swept
abbrev pub After : ℕ → Command → List Made → Type 0
After size (Kill n) ms = AreSwept 0 size ms
After size _ ms = ms ≡ []
