-- Every legal history from a start keeps the headline.
use Rattle.std.proofs.Common.{◌≡◌, ℕ, true, inl, inr, List, [], ◌∷◌, ◌++◌, refl, ap, sym, subst}
use Rattle.std.specs.Prelude.{Option, Some, None, map, is_some}
use Rattle.std.specs.List.{list_any, AllByRecursion}
use Rattle.push_model.specs.declared.entry.Entry.{Entry}
use Rattle.push_model.specs.declared.step.Actor.TheVariants.{Flight as OfFlight, Saver as OfSaver}
use Rattle.push_model.specs.declared.step.Step.{Step}
use Rattle.push_model.specs.declared.step.Step.TheVariants.{Reread, Nudge, Heard, Lost, Clear, TakeDirect, FetchTopic, FetchPlain}
use Rattle.push_model.specs.declared.reply.Reply.{Reply}
use Rattle.push_model.specs.declared.reply.Reply.TheVariants.{Page}
use Rattle.push_model.specs.MessageValue.{MessageValue}
use Rattle.push_model.specs.Worlds.{World, start}
use Rattle.push_model.specs.Steps.{step}
use Rattle.push_model.specs.Replies.{replies_to}
use Rattle.push_model.specs.Histories.{IsLegal, world_after, history}
use Rattle.push_model.specs.Pools.{Pool, PoolStep, Reason, Show, Taken, after, after_all, empty_pool, taken_at, IsAt, MeetsAll}
use Rattle.push_model.specs.Images.{events, image, is_stored_or_held}
use Rattle.push_model.specs.Accounting.{IsAccountedFrom, IsAnswered, IsExact}
use Rattle.push_model.proofs.Marks.{IsMark, mapped, marked_each}
use Rattle.push_model.proofs.Replied.{replied}
use Rattle.push_model.proofs.Accounted.{accounted}
use Rattle.push_model.proofs.Cared.{all_cared}
use Rattle.push_laws.specs.Headline.{AllAccepted, Headline, IsAccepted, IsWhere, Promised, pool_after, shown_in}
use Rattle.push_laws.proofs.Sounds.{sound, kept_from, kept_start}

-- ---- after the last entry pool and world are exact

exact_after : (p : Pool) (w : World) (es : List (Entry Step Reply)) → IsAccountedFrom p w es → IsExact (pool_after p w es) (world_after step w es)
exact_after p w [] h = h
exact_after p w (e ∷ es) h = exact_after (after_all (image p w e) p) (step w e.step).0 es h.1

where_by : (w : World) (n : ℕ) (t : Taken) (o : Option Reason) → t.left ≡ o → (t.left ≡ None → list_any (λ e. is_stored_or_held n e.1) w.cells ≡ true) → IsWhere w n t
where_by w n t None e f = inl (f e)
where_by w n t (Some r) e f = inr (r, e)

promised_by : (p : Pool) (w : World) (n : ℕ) (o : Option Taken) → taken_at n p ≡ o → IsExact p w → Promised w n o
promised_by p w n None e x = tt
promised_by p w n (Some t) e x =
    λ a l. where_by w n t t.left refl
    (λ q. x.answered n (subst (λ o. IsAt o IsAnswered) (sym e) (record { live = q; answered = ap is_some a })))

-- ---- what is shown

show_mark : IsMark (λ t. record t { shown = true })
show_mark = record { message = λ t. refl; kept = λ t h. h }

abbrev Back : MessageValue → Option Taken → Option Taken → Type 0
Back m o v = IsAt v (λ t. t.message ≡ m) → IsAt o (λ t. t.message ≡ m)

back_mark : (m : MessageValue) (o : Option Taken) → Back m o (mapped (λ t. record t { shown = true }) o)
back_mark m None h = h
back_mark m (Some t) h = h

back_shown : (k m : MessageValue) (p : Pool) → IsAccepted (after (Show k) p) m → IsAccepted p m
back_shown k m p h =
    marked_each (Back m) k.id.number (λ t. record t { shown = true }) p show_mark (λ o x. x) (back_mark m (taken_at k.id.number p)) m.id.number h

all_back : (k : MessageValue) (ms : List MessageValue) (p : Pool) → AllByRecursion (IsAccepted (after (Show k) p)) ms → AllByRecursion (IsAccepted p) ms
all_back k [] p h = tt
all_back k (m ∷ ms) p h = (back_shown k m p h.0, all_back k ms p h.1)

as_accepted : (m : MessageValue) (o : Option Taken) → IsAt o (λ t. (t.left ≡ None) × (t.message ≡ m)) → IsAt o (λ t. t.message ≡ m)
as_accepted m None h = h
as_accepted m (Some t) h = h.1

shows_accepted : (ms : List MessageValue) (more : List PoolStep) (p : Pool) → MeetsAll (map Show ms ++ more) p → AllByRecursion (IsAccepted p) ms
shows_accepted [] more p h = tt
shows_accepted (m ∷ ms) more p h =
    (as_accepted m (taken_at m.id.number p) h.0, all_back m ms p (shows_accepted ms more (after (Show m) p) h.1))

-- a page is the reply to a step that shows it
page_accepted : (p : Pool) (w : World) (x : Step) (ms : List MessageValue) (more : List PoolStep) → replies_to x (Page ms) ≡ true →
    MeetsAll (events w x (Page ms) ++ more) p → AllByRecursion (IsAccepted p) ms
page_accepted p w (TakeDirect s) ms more r h = shows_accepted ms more p h
page_accepted p w (FetchTopic s) ms more r h = shows_accepted ms more p h
page_accepted p w (FetchPlain s) ms more r h = shows_accepted ms more p h
page_accepted p w (Reread (OfFlight o)) ms more r h = cc
page_accepted p w (Reread (OfSaver s)) ms more r h = cc
page_accepted p w (Nudge (OfFlight o)) ms more r h = cc
page_accepted p w (Nudge (OfSaver s)) ms more r h = cc
page_accepted p w (Heard (OfFlight o)) ms more r h = cc
page_accepted p w (Heard (OfSaver s)) ms more r h = cc
page_accepted p w (Lost (OfFlight o)) ms more r h = cc
page_accepted p w (Lost (OfSaver s)) ms more r h = cc
page_accepted p w (Clear (OfFlight o)) ms more r h = cc
page_accepted p w (Clear (OfSaver s)) ms more r h = cc
page_accepted p w _ ms more r h = cc

reply_accepted : (p : Pool) (w : World) (x : Step) (r : Reply) (more : List PoolStep) → replies_to x r ≡ true →
    MeetsAll (events w x r ++ more) p → AllByRecursion (IsAccepted p) (shown_in r)
reply_accepted p w x (Page ms) more e h = page_accepted p w x ms more e h
reply_accepted p w x _ more e h = tt

all_accepted : (p : Pool) (w : World) (es : List (Entry Step Reply)) → IsLegal step w es → IsAccountedFrom p w es → AllAccepted p w es
all_accepted p w [] l h = tt
all_accepted p w (e ∷ es) l h = (
  reply_accepted p w e.step e.reply _ (subst (λ r. replies_to e.step r ≡ true) (sym l.0) (replied w e.step)) h.0,
  all_accepted (after_all (image p w e) p) (step w e.step).0 es l.1 h.1,
)

-- ---- the headline

pub headline : (shard next : ℕ) (es : List (Entry Step Reply)) → IsLegal step (start shard next) es → Headline (start shard next) es
headline shard next es l =
    let w = start shard next in
    let a = accounted shard next es l in
    let c = all_cared shard next es l in
    record {
      accounted = a;
      answered = λ n. promised_by (pool_after empty_pool w es) (world_after step w es) n (taken_at n (pool_after empty_pool w es)) refl (exact_after empty_pool w es a);
      shown = all_accepted empty_pool w es l a;
      covered = c.cared;
      reports = c.reported;
      sound = sound (world_after step w es) (kept_from w es l (kept_start shard next));
    }

-- the history of steps is legal
pub history_legal : (by : ℕ) (w : World) (xs : List Step) → IsLegal step w (history step by w xs)
history_legal by w [] = tt
history_legal by w (x ∷ xs) = (refl, history_legal by (step w x).0 xs)
