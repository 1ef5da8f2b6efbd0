-- Users told or dropped, one after the other.
use Rattle.std.proofs.Common.{◌≡◌, ℕ, ◌+◌, Bool, true, cond, List, [], ◌∷◌, ◌++◌, take, refl, ap, sym, subst, ◌∙◌, arith, inr, Option, Some, None, Ok, Err}
use Rattle.std.specs.Prelude.{count_by, slice_get}
use Rattle.std.proofs.lemmas.List.{append-nil, map-append, take_more}
use Rattle.std.proofs.lemmas.List.Sums.{sum_by-append}
use Rattle.std.proofs.lemmas.Option.{get_or_from_slice_get, slice_get_within}
use Rattle.push_model.specs.MailWords.{bit_of}
use Rattle.push_model.specs.DeskViews.{DeskView, Calls, Made, Mails, made, written}
use Rattle.push_model.specs.declared.entry.NoMemory.{NoMemory}
use Rattle.push_model.specs.declared.ids.Uaid.{Uaid}
use Rattle.push_model.specs.declared.mail.MailChange.TheVariants.{Post}
use Rattle.push_model.specs.declared.step.Step.TheVariants.{Expire, ListIdle, ListOrphans, Notif}
use Rattle.push_model.specs.declared.reply.Reply.{Reply}
use Rattle.push_model.specs.declared.reply.Reply.TheVariants.{Here, Users}
use Rattle.push_model.proofs.DeskLemmas.{calls_more, mails_more}
use Rattle.node_routes.specs.Routes.{is_here}
use Rattle.node_sweep.specs.Entries.{Does}
use Rattle.node_sweep.specs.Sweeps.{AreDropped, AreTold, Drops, Named, SweepMade, Tells, counted, expires, is_dropped, notifs}
use Rattle.node_sweep.specs.declared.sweeps.Swept.{Swept}
use Rattle.node_sweep.proofs.EntryLemmas.{does_more, does_none, made_more}

-- ---- counts

counted_more : (p : Made → Bool) (ms ns : List Made) (c d e : ℕ) → c ≡ counted (count_by p ms) → d ≡ counted (count_by p ns) → e ≡ counted (c + d) → e ≡ counted (count_by p (ms ++ ns))
counted_more p ms ns c d e ec ed ee = let both = sum_by-append (λ m. cond (p m) 1 0) ms ns in omega (arith, both)

-- ---- one more user

-- the next of a list
next_is : (us : List Named) (i : ℕ) (u : Named) → slice_get us i ≡ Some u → take (i + 1) us ≡ take i us ++ u ∷ []
next_is us i u e =
    take_more us i u (slice_get_within us i u e) ∙ ap (λ (v : Named). take i us ++ v ∷ []) (get_or_from_slice_get us i u u e)

-- ---- told

abbrev pub Told : ℕ → List Named → ℕ → DeskView → DeskView → Type 0
Told k us told a b = (notes : List Made) × Does a b notes × AreTold k us told notes

notifs_more : (us vs : List Named) → notifs (us ++ vs) ≡ notifs us ++ notifs vs
notifs_more [] vs = refl
notifs_more ((u, Some n, a) ∷ us) vs = ap (λ xs. Notif n u ∷ xs) (notifs_more us vs)
notifs_more ((u, None, a) ∷ us) vs = notifs_more us vs

pub told_none : (k : ℕ) (a : DeskView) → Told k [] 0 a a
told_none k a = ([], does_none a, record { each = tt; count = refl })

pub told_more : (k : ℕ) (us : List Named) (i : ℕ) (u : Named) (c d e : ℕ) (a m b : DeskView) → slice_get us i ≡ Some u → e ≡ counted (c + d)
    → Told k (take i us) c a m → Told k (u ∷ []) d m b → Told k (take (i + 1) us) e a b
told_more k us i u c d e a m b is ee f g = (
  f.0 ++ g.0,
  does_more a m b f.0 g.0 f.1 g.1,
  record {
    each = rw (next_is us i u is, notifs_more (take i us) (u ∷ [])) (made_more k (notifs (take i us)) (notifs (u ∷ [])) f.0 g.0 f.2.each g.2.each);
    count = counted_more (λ m. is_here m.reply) f.0 g.0 c d e f.2.count g.2.count ee;
  },
)

-- the session was found, and the user's bit posted
pub told_here : (k n : ℕ) (u : Uaid) (at : ℕ) (r : Reply) (a m b : DeskView) → is_here r ≡ true → Calls a m (made k (Notif n u) r ∷ []) → Mails a m []
    → Calls m b [] → Mails m b (written k n (Post (bit_of u)) ∷ []) → Told k ((u, Some n, at) ∷ []) 1 a b
told_here k n u at (Here v) a m b h calls mail still post = (
  made k (Notif n u) (Here v) ∷ [],
  record {
    calls = calls_more a m b (made k (Notif n u) (Here v) ∷ []) [] calls still;
    mail = mails_more a m b [] (written k n (Post (bit_of u)) ∷ []) mail post;
  },
  record { each = (refl, refl, tt); count = refl },
)
told_here k n u at _ a m b h calls mail still post = absurd (cc h)

-- by its node
pub told_by : (k : ℕ) (u : Named) (o : Option ℕ) (told : ℕ) (a b : DeskView) → u.1 ≡ o → Told k ((u.0, o, u.2) ∷ []) told a b → Told k (u ∷ []) told a b
told_by k u o told a b e h = subst (λ (p : Option ℕ). Told k ((u.0, p, u.2) ∷ []) told a b) (sym e) h

pub passed_over : (k : ℕ) (u : Uaid) (at : ℕ) (a : DeskView) → Told k ((u, None, at) ∷ []) 0 a a
passed_over k u at a = ([], does_none a, record { each = tt; count = refl })

-- ---- dropped

abbrev pub Dropped : ℕ → List Named → ℕ → DeskView → DeskView → Type 0
Dropped k us dropped a b = (drops : List Made) × Does a b drops × AreDropped k us dropped drops

pub dropped_none : (k : ℕ) (a : DeskView) → Dropped k [] 0 a a
dropped_none k a = ([], does_none a, record { each = tt; count = refl })

pub dropped_more : (k : ℕ) (us : List Named) (i : ℕ) (u : Named) (c d e : ℕ) (a m b : DeskView) → slice_get us i ≡ Some u → e ≡ counted (c + d)
    → Dropped k (take i us) c a m → Dropped k (u ∷ []) d m b → Dropped k (take (i + 1) us) e a b
dropped_more k us i u c d e a m b is ee f g = (
  f.0 ++ g.0,
  does_more a m b f.0 g.0 f.1 g.1,
  record {
    each = rw (next_is us i u is, map-append (λ (v : Named). Expire v.0) (take i us) (u ∷ [])) (made_more k (expires (take i us)) (expires (u ∷ [])) f.0 g.0 f.2.each g.2.each);
    count = counted_more (λ m. is_dropped m.reply) f.0 g.0 c d e f.2.count g.2.count ee;
  },
)

-- ---- the two halves

pub tells_after : (k told : ℕ) (us : List Named) (a m b : DeskView) → Does a m (made k ListOrphans (Users us) ∷ []) → Told k us told m b → (entries : List Made) × Does a b entries × Tells k told entries
tells_after k told us a m b f g =
    (made k ListOrphans (Users us) ∷ g.0, does_more a m b (made k ListOrphans (Users us) ∷ []) g.0 f g.1, record { orphans = us; notes = g.0; is = refl; tells = g.2 })

pub drops_after : (k dropped : ℕ) (us : List Named) (a m b : DeskView) → Does a m (made k ListIdle (Users us) ∷ []) → Dropped k us dropped m b → (entries : List Made) × Does a b entries × Drops k dropped entries
drops_after k dropped us a m b f g =
    (made k ListIdle (Users us) ∷ g.0, does_more a m b (made k ListIdle (Users us) ∷ []) g.0 f g.1, record { idle = us; drops = g.0; is = refl; dropping = g.2 })

pub cut_after : (e : NoMemory) (k told : ℕ) (a m b : DeskView) → (entries : List Made) × Does a m entries × Tells k told entries → Does m b [] → SweepMade (Err e) k a b
cut_after e k told a m b f s =
    record { entries = f.0; does = subst (λ (ms : List Made). Does a b ms) (append-nil f.0) (does_more a m b f.0 [] f.1 s); sweeps = inr (told, f.2) }

pub whole_after : (s : Swept) (k told dropped : ℕ) (a m b : DeskView) → s.told ≡ told → s.dropped ≡ dropped
    → (entries : List Made) × Does a m entries × Tells k told entries → (entries : List Made) × Does m b entries × Drops k dropped entries → SweepMade (Ok s) k a b
whole_after s k told dropped a m b et ed f g =
    record {
      entries = f.0 ++ g.0;
      does = does_more a m b f.0 g.0 f.1 g.1;
      sweeps = record { first = f.0; rest = g.0; is = refl; tells = rw et f.2; drops = rw ed g.2 };
    }
