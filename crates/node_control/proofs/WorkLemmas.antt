-- A step, or a sweep, on one shard after the other.
use Rattle.std.proofs.Common.{◌≡◌, ℕ, zero, suc, ◌+◌, true, false, Bool, List, [], ◌∷◌, ◌++◌, length, refl, ap, sym, subst, ◌∙◌, append_assoc, add-one, arith, inl, inr, Option, Result, Ok, Err}
use Rattle.std.specs.Prelude.{◌&&◌, sum_by}
use Rattle.std.specs.List.{list_all}
use Rattle.std.proofs.lemmas.Bool.{eqb-true}
use Rattle.std.proofs.lemmas.List.{append-nil, length_push}
use Rattle.std.proofs.lemmas.List.Sums.{sum_by_push}
use Rattle.push_model.specs.declared.counts.Counts.{Counts}
use Rattle.push_model.specs.declared.entry.Entry.{Entry}
use Rattle.push_model.specs.declared.entry.NoMemory.{NoMemory}
use Rattle.push_model.specs.declared.step.Step.{Step}
use Rattle.push_model.specs.declared.step.Step.TheVariants.{Report}
use Rattle.push_model.specs.declared.reply.Reply.{Reply}
use Rattle.push_model.specs.declared.reply.Reply.TheVariants.{Counts as CountsAre, Killed as KilledIs}
use Rattle.push_model.specs.Caring.{counts_none, none_waited, none_waits}
use Rattle.push_model.specs.DeskViews.{DeskView, EndsWith, IsHonest, IsSameDesk, Made, made}
use Rattle.push_model.specs.Histories.{IsLegal, entry}
use Rattle.push_model.specs.Reached.{IsReached}
use Rattle.push_model.specs.Steps.{step}
use Rattle.push_model.specs.Tallies.{capped}
use Rattle.push_model.specs.Worlds.{World}
use Rattle.push_model.proofs.DeskLemmas.{honest_after}
use Rattle.schedule_text.specs.Replies.{reply_line}
use Rattle.std.specs.Io.KnownBytes.{Appends}
use Rattle.node_sweep.specs.Entries.{Does, all_posts}
use Rattle.node_sweep.specs.Sweeps.{SweepMade}
use Rattle.node_sweep.specs.declared.sweeps.Swept.{Swept}
use Rattle.node_sweep.proofs.EntryLemmas.{does_more, does_none}
use Rattle.node_control.specs.Sums.{counts_with}
use Rattle.node_control.specs.Commands.{command_of}
use Rattle.node_control.specs.Steps.{AnswersLine, Follows}
use Rattle.node_control.specs.Works.{After, AreFrom, AreSwept, Before, IsAnySweep, OnEach, Reports, all_counts, counts_of, held_of, kills_sum, orphans_of}
use Rattle.node_control.specs.declared.commands.Command.{Command}
use Rattle.node_control.specs.declared.commands.Command.TheVariants.{Kill as Kills, Up as Ups, Report as Asks, Stop as Stops, Unknown as Knows_none}

pub honest_since : (a b : DeskView) (ms : List Made) → Does a b ms → IsHonest a → IsHonest b
honest_since a b ms f h = honest_after a b ms (all_posts ms) f.calls f.mail h

-- ---- a step

from_more : (k j : ℕ) (x : Step) (ms : List Made) (r : Reply) → j ≡ k + length ms → AreFrom k x ms → AreFrom k x (ms ++ made j x r ∷ [])
from_more k j x [] r e f = (omega arith, refl, tt)
from_more k j x (m ∷ ms) r e f = (f.0, f.1, from_more (k + 1) j x ms r (omega arith) f.2)

each_more : (x : Step) (n : ℕ) (ms : List Made) (r : Reply) → OnEach n x ms → OnEach (n + 1) x (ms ++ made n x r ∷ [])
each_more x n ms r f = record {
  count = length_push ms (made n x r) ∙ ap (λ (i : ℕ). i + 1) f.count;
  each = from_more 0 n x ms r (omega (arith, f.count)) f.each;
}

-- on the shards below n
pub record UpTo (x : Step) (n : ℕ) (a b : DeskView) : Type 0 where
  pub entries : List Made
  pub does : Does a b entries
  pub each : OnEach n x entries

pub up_to_none : (x : Step) (a : DeskView) → UpTo x 0 a a
up_to_none x a = record { entries = []; does = does_none a; each = record { count = refl; each = tt } }

pub up_to_more : (x : Step) (n : ℕ) (a m b : DeskView) (r : Reply) → UpTo x n a m → Does m b (made n x r ∷ []) → UpTo x (n + 1) a b
up_to_more x n a m b r f g = record {
  entries = f.entries ++ made n x r ∷ [];
  does = does_more a m b f.entries (made n x r ∷ []) f.does g;
  each = each_more x n f.entries r f.each;
}

pub up_to_all : (x : Step) (n size : ℕ) (a b : DeskView) → n ≡ size → UpTo x n a b → (ups : List Made) × Does a b ups × OnEach size x ups
up_to_all x n size a b e f = (f.entries, f.does, subst (λ (i : ℕ). OnEach i x f.entries) e f.each)

-- ---- sums

capped_more : (s x : ℕ) → capped (capped s + x) ≡ capped (s + x)
capped_more s x = omega arith

sum_more : (f : Made → ℕ) (ms : List Made) (m : Made) → capped (capped (sum_by f ms) + f m) ≡ capped (sum_by f (ms ++ m ∷ []))
sum_more f ms m = capped_more (sum_by f ms) (f m) ∙ ap capped (sym (sum_by_push f ms m))

-- of kills
pub record Killed (x : Step) (n held orphans : ℕ) (a b : DeskView) : Type 0 where
  pub up_to : UpTo x n a b
  pub held_sum : held ≡ capped (sum_by (λ m. held_of m.reply) up_to.entries)
  pub orphans_sum : orphans ≡ capped (sum_by (λ m. orphans_of m.reply) up_to.entries)

pub killed_none : (x : Step) (a : DeskView) → Killed x 0 0 0 a a
unfolding up_to_none
killed_none x a = record { up_to = up_to_none x a; held_sum = refl; orphans_sum = refl }

pub killed_more : (x : Step) (n held orphans more_held more_orphans h o : ℕ) (a m b : DeskView) (r : Reply) → Killed x n held orphans a m → Does m b (made n x r ∷ [])
    → more_held ≡ held_of r → more_orphans ≡ orphans_of r → h ≡ capped (held + more_held) → o ≡ capped (orphans + more_orphans) → Killed x (n + 1) h o a b
unfolding up_to_more
killed_more x n held orphans more_held more_orphans h o a m b r f g eh eo sh so = record {
  up_to = up_to_more x n a m b r f.up_to g;
  held_sum = sh ∙ (rw (f.held_sum, eh) refl ∙ sum_more (λ e. held_of e.reply) f.up_to.entries (made n x r));
  orphans_sum = so ∙ (rw (f.orphans_sum, eo) refl ∙ sum_more (λ e. orphans_of e.reply) f.up_to.entries (made n x r));
}

pub killed_all : (x : Step) (n held orphans size : ℕ) (a b : DeskView) → n ≡ size → Killed x n held orphans a b
    → (kills : List Made) × Does a b kills × OnEach size x kills × (KilledIs held orphans ≡ kills_sum kills)
killed_all x n held orphans size a b e f =
    (f.up_to.entries, f.up_to.does, subst (λ (i : ℕ). OnEach i x f.up_to.entries) e f.up_to.each, rw (f.held_sum, f.orphans_sum) refl)

-- of reports
counts_more : (ms : List Made) (m : Made) → counts_with (all_counts ms) (counts_of m.reply) ≡ all_counts (ms ++ m ∷ [])
counts_more ms m = λ i. record {
  users = sum_more (λ e. (counts_of e.reply).users) ms m i;
  stored = sum_more (λ e. (counts_of e.reply).stored) ms m i;
  held = sum_more (λ e. (counts_of e.reply).held) ms m i;
  flights = sum_more (λ e. (counts_of e.reply).flights) ms m i;
  unsent = sum_more (λ e. (counts_of e.reply).unsent) ms m i;
  orphans = sum_more (λ e. (counts_of e.reply).orphans) ms m i;
  waiting = sum_more (λ e. (counts_of e.reply).waiting) ms m i;
}

pub record Reported (n : ℕ) (all : Counts) (a b : DeskView) : Type 0 where
  pub up_to : UpTo Report n a b
  pub sums : all ≡ all_counts up_to.entries
  pub none_waits : IsHonest a → all.waiting ≡ 0

pub reported_none : (all : Counts) (a : DeskView) → all ≡ all_counts [] → Reported 0 all a a
unfolding up_to_none
reported_none all a e = record { up_to = up_to_none Report a; sums = e; none_waits = λ h. ap (λ c. c.waiting) e }

pub reported_more : (n : ℕ) (all more new : Counts) (a m b : DeskView) (r : Reply) → Reported n all a m → Does m b (made n Report r ∷ []) → more ≡ counts_of r
    → (IsHonest m → more.waiting ≡ 0) → new ≡ counts_with all more → Reported (n + 1) new a b
unfolding up_to_more
reported_more n all more new a m b r f g em none en = record {
  up_to = up_to_more Report n a m b r f.up_to g;
  sums = en ∙ (rw (f.sums, em) refl ∙ counts_more f.up_to.entries (made n Report r));
  none_waits = λ h.
      let was : all.waiting ≡ 0 = f.none_waits h in
      let is : more.waiting ≡ 0 = none (honest_since a m f.up_to.entries f.up_to.does h) in
      ap (λ c. c.waiting) en ∙ rw (was, is) refl;
}

pub reported_all : (n size : ℕ) (all : Counts) (a b : DeskView) → n ≡ size → Reported n all a b → (reports : List Made) × Does a b reports × OnEach size Report reports × (all ≡ all_counts reports)
reported_all n size all a b e f = (f.up_to.entries, f.up_to.does, subst (λ (i : ℕ). OnEach i Report f.up_to.entries) e f.up_to.each, f.sums)

-- ---- no report of honest desks counts a row that waits

both : (b c : Bool) → (b && c) ≡ true → c ≡ true
both true c e = e
both false c e = let odd : false ≡ true = e in cc

first_of_both : (b c : Bool) → (b && c) ≡ true → b ≡ true
first_of_both true c e = refl
first_of_both false c e = let odd : false ≡ true = e in cc

last_all : {A : Type 0} → (p : A → Bool) (xs : List A) (x : A) → list_all p (xs ++ x ∷ []) ≡ true → p x ≡ true
last_all p [] x h = first_of_both (p x) true h
last_all p (y ∷ ys) x h = last_all p ys x (both (p y) (list_all p (ys ++ x ∷ [])) h)

waits_by : (r : Reply) → counts_none r ≡ true → (counts_of r).waiting ≡ 0
waits_by (CountsAre c) h = eqb-true c.waiting 0 h
waits_by _ h = absurd (cc h)

pub none_reported : (a b : DeskView) (k : ℕ) (r : Reply) → ((w : World) (es : List (Entry Step Reply)) → IsReached w → IsLegal step w es → none_waited es ≡ true)
    → IsSameDesk a b → EndsWith a b k Report r → IsHonest a → (counts_of r).waiting ≡ 0
none_reported a b k r law same ends h =
    let all : none_waited ((a.seen k ++ ends.between) ++ entry (a.number k) Report r ∷ []) ≡ true =
    subst (λ (es : List (Entry Step Reply)). none_waited es ≡ true) ends.seen (law (b.opened k) (b.seen k) (subst IsReached (sym (same.opened k)) (h.opened k)) ends.legal) in
    waits_by r (last_all (λ e. none_waits e.step e.reply) (a.seen k ++ ends.between) (entry (a.number k) Report r) all)

-- ---- sweeps

any_sweep : (k : ℕ) (result : Result Swept NoMemory) (a b : DeskView) → SweepMade result k a b → (one : List Made) × Does a b one × IsAnySweep k one
any_sweep k (Ok s) a b f = (f.entries, f.does, inl (s.told, s.dropped, f.sweeps))
any_sweep k (Err e) a b f = (f.entries, f.does, inr f.sweeps)

swept_more : (k n j : ℕ) (ms one : List Made) → j ≡ k + n → AreSwept k n ms → IsAnySweep j one → AreSwept k (suc n) (ms ++ one)
swept_more k zero j ms one e f g =
    (one, [], rw f (sym (append-nil one)), subst (λ (i : ℕ). IsAnySweep i one) (let at : j ≡ k = omega arith in at) g, refl)
swept_more k (suc n) j ms one e f g =
    (f.0, f.1 ++ one, ap (λ (l : List Made). l ++ one) f.2 ∙ append_assoc f.0 f.1 one, f.3, swept_more (k + 1) n j f.1 one (omega arith) f.4 g)

pub record SweptTo (n : ℕ) (a b : DeskView) : Type 0 where
  pub entries : List Made
  pub does : Does a b entries
  pub swept : AreSwept 0 n entries

pub swept_none : (a : DeskView) → SweptTo 0 a a
swept_none a = record { entries = []; does = does_none a; swept = refl }

pub swept_on : (n : ℕ) (result : Result Swept NoMemory) (a m b : DeskView) → SweptTo n a m → SweepMade result n m b → SweptTo (n + 1) a b
swept_on n result a m b f g =
    let one = any_sweep n result m b g in
    record {
      entries = f.entries ++ one.0;
      does = does_more a m b f.entries one.0 f.does one.1;
      swept = rw add-one (swept_more 0 n n f.entries one.0 (omega arith) f.swept one.2);
    }

pub swept_all : (n size : ℕ) (a b : DeskView) → n ≡ size → SweptTo n a b → (sweeps : List Made) × Does a b sweeps × AreSwept 0 size sweeps
swept_all n size a b e f = (f.entries, f.does, subst (λ (i : ℕ). AreSwept 0 i f.entries) e f.swept)

-- ---- what a line does

pub report_made : (all : Counts) (a m b : DeskView) → (sweeps : List Made) × Does a m sweeps × AreSwept 0 a.size sweeps
    → (reports : List Made) × Does m b reports × OnEach m.size Report reports × (all ≡ all_counts reports) → (IsHonest m → all.waiting ≡ 0)
    → (entries : List Made) × Does a b entries × Reports (IsHonest a) a.size entries (CountsAre all)
report_made all a m b f g none = (
  f.0 ++ g.0,
  does_more a m b f.0 g.0 f.1 g.1,
  record {
    sweeps = f.0;
    reports = g.0;
    is = refl;
    swept = f.2;
    reported = subst (λ (n : ℕ). OnEach n Report g.0) f.1.calls.same.size g.2;
    sums = ap CountsAre g.3;
    none_waits = λ h. let zero : all.waiting ≡ 0 = none (honest_since a m f.0 f.1 h) in rw zero refl;
  },
)

-- a line that made this before its answer and that after it
pub answered_by : (line : List ℕ) (r : Reply) (a m b : DeskView) (held now : Option (List ℕ)) → (entries : List Made) × Does a m entries × Before (IsHonest a) a.size (command_of line) entries r
    → Follows (command_of line) m b → Appends held now (reply_line r) → AnswersLine line a b held now
answered_by line r a m b held now f g w = record {
  entries = f.0 ++ g.entries;
  reply = r;
  made = record { first = f.0; rest = g.entries; is = refl; before = f.2; after = subst (λ (n : ℕ). After n (command_of line) g.entries) f.1.calls.same.size g.after };
  does = does_more a m b f.0 g.entries f.1 g.does;
  output = w;
}

-- nothing comes after other lines than a kill
pub follows_none : (c : Command) (a : DeskView) → ((n : ℕ) → c ≡ Kills n → ⊥) → Follows c a a
follows_none (Kills n) a other = absurd (other n refl)
follows_none (Ups n) a other = record { entries = []; does = does_none a; after = refl }
follows_none Asks a other = record { entries = []; does = does_none a; after = refl }
follows_none Stops a other = record { entries = []; does = does_none a; after = refl }
follows_none Knows_none a other = record { entries = []; does = does_none a; after = refl }
