-- The answers to a client's texts.
use Rattle.std.proofs.Common.{◌≡◌, ℕ, ◌+◌, ◌<◌, ◌==◌, Bool, true, false, cond, List, [], ◌∷◌, ◌++◌, length, drop, get_or, refl, ap, sym, ◌∙◌, append_assoc, subst, add-one, Result, Ok, Err, Option, Some, None}
use Rattle.std.proofs.Math.Seq.{drop-cons, drop-length}
use Rattle.push_model.specs.SessionKey.{SessionKey}
use Rattle.push_model.specs.DeskViews.{DeskView, Calls, Mails, made}
use Rattle.push_model.proofs.DeskLemmas.{calls_none, mails_none}
use Rattle.push_model.specs.declared.ids.ChannelId.{ChannelId}
use Rattle.push_model.specs.declared.ids.MsgId.{MsgId}
use Rattle.push_model.specs.declared.step.Step.{Step}
use Rattle.push_model.specs.declared.step.Step.TheVariants.{Ack}
use Rattle.push_model.specs.declared.reply.Reply.{Reply}
use Rattle.session_drive.specs.declared.ends.SessionEnd.{SessionEnd}
use Rattle.session_drive.specs.declared.ends.SessionEnd.TheVariants.{Ended, ChatFault, NoMemory}
use Rattle.session_drive.specs.Chats.{IsSendEnd, end_of}
use Rattle.session_drive.specs.Asked.{AskEnds, Asked, IsAny, asked, is_no_session}
use Rattle.session_drive.specs.Runs.{Next, Asks, Over, Runs, Sides, Steps, Still}
use Rattle.session_drive.specs.Begins.{Leads}
use Rattle.session_drive.specs.Answers.{AckMade, AckSays, IsQuiet, acking, acks_of, one_step, unless_gone}
use Rattle.session_drive.proofs.RunLemmas.{answered, run_over, run_step, run_failed}
use Rattle.session_drive.proofs.StepLemmas.{leads_none, leads_then, leads_end, steps_over}
use Rattle.session_drive.proofs.GoesLemmas.{lead_one, step_last}

pub still : (a : Sides) → Still a a
still a = record { calls = calls_none a.desks; mail = mails_none a.desks; chat = refl }

-- ---- one step

pub sent_ends : (result : Result (Unit {0}) SessionEnd) (r : Reply) → IsSendEnd (end_of result) → is_no_session r ≡ false → AskEnds IsAny result (Some r)
sent_ends (Ok u) r h e = (e, tt)
sent_ends (Err ChatFault) r h e = e
sent_ends (Err NoMemory) r h e = e
sent_ends (Err end) r h e = absurd h

pub one_said : (k : ℕ) (x : Step) (texts : List (List ℕ)) (result : Result (Unit {0}) SessionEnd) (a b : Sides) → Asked k x (unless_gone texts) IsAny result a b → Runs (one_step k x) (unless_gone texts) result a b
one_said k x texts (Ok u) a b h =
    let r = answered k x (unless_gone texts) IsAny u a b h in
    run_step (one_step k x) (unless_gone texts) (Ok u) k x IsAny u r.0 a b b refl r.1 (run_over (λ rs. one_step k x (r.0 ∷ rs)) (unless_gone texts) u b (rw (r.1.goes_on, r.1.fits) refl))
one_said k x texts (Err e) a b h = run_failed (one_step k x) (unless_gone texts) IsAny e k x a b refl (λ r i. rw i refl) (λ r f i. rw (i, f) tt) h

-- ---- acknowledgements

module _ (k : ℕ) (s : SessionKey) (us : List (ChannelId × MsgId)) where
  -- those from that place on
  abbrev pub from : ℕ → List Reply → Next (Unit {0})
  from i = acking k s (acks_of k (drop i us))

  pub acks_none : (a : DeskView) → Leads (acking k s (acks_of k us)) (from 0) a a
  acks_none a = leads_none (acking k s (acks_of k us)) a

  module _ (i : ℕ) (u : ChannelId × MsgId) (low : i < length us) (is : u ≡ get_or us i u) where
    here : drop i us ≡ u ∷ drop (i + 1) us
    here = drop-cons us i u low ∙ rw (add-one, ← is) refl

    acks_skip : (u.1.shard == k) ≡ false → acks_of k (drop i us) ≡ acks_of k (drop (i + 1) us)
    acks_skip e = rw (here, e) refl

    acks_take : (u.1.shard == k) ≡ true → acks_of k (drop i us) ≡ u ∷ acks_of k (drop (i + 1) us)
    acks_take e = rw (here, e) refl

    skipped : (f : List Reply → Next (Unit {0})) (a b : DeskView) → (u.1.shard == k) ≡ false → Leads f (from i) a b → Leads f (from (i + 1)) a b
    skipped f a b e h = subst (λ (vs : List (ChannelId × MsgId)). Leads f (acking k s vs) a b) (acks_skip e) h

    taken : (f : List Reply → Next (Unit {0})) (a b : DeskView) → (u.1.shard == k) ≡ true → Leads f (from i) a b → Leads f (acking k s (u ∷ acks_of k (drop (i + 1) us))) a b
    taken f a b e h = subst (λ (vs : List (ChannelId × MsgId)). Leads f (acking k s vs) a b) (acks_take e) h

    on_at : (here : Bool) (o : Option Reply) (f : List Reply → Next (Unit {0})) (a b c : DeskView) → (u.1.shard == k) ≡ here → AckSays here (Ok tt) o → Leads f (from i) a b → Calls b c (asked k (Ack s u.0 u.1) o) → Mails b c [] → Leads f (from (i + 1)) a c
    on_at false None f a b c e says h calls mail = skipped f a c e (leads_then f (from i) (from i) a b c h (record { made = []; calls = calls; mail = mail; follows = tt; on = λ rs. refl }))
    on_at true (Some r) f a b c e says h calls mail =
        leads_then f (acking k s (u ∷ acks_of k (drop (i + 1) us))) (from (i + 1)) a b c (taken f a b e h)
        (lead_one (acking k s (u ∷ acks_of k (drop (i + 1) us))) (from (i + 1)) k (Ack s u.0 u.1) r b c refl (λ rs. rw says refl) calls mail)
    on_at false (Some r) f a b c e says h calls mail = absurd says
    on_at true None f a b c e says h calls mail = absurd says

    failed_at : (here : Bool) (end : SessionEnd) (o : Option Reply) (f : List Reply → Next (Unit {0})) (a b c : DeskView) → (u.1.shard == k) ≡ here → AckSays here (Err end) o → Leads f (from i) a b → Calls b c (asked k (Ack s u.0 u.1) o) → Mails b c [] → Steps f (Err end) a c
    failed_at true Ended (Some r) f a b c e says h calls mail =
        leads_end f (acking k s (u ∷ acks_of k (drop (i + 1) us))) (Err Ended) a b c (taken f a b e h)
        (step_last (acking k s (u ∷ acks_of k (drop (i + 1) us))) (Err Ended) k (Ack s u.0 u.1) r b c refl (rw says refl) calls mail)
    failed_at test end o f a b c e says h calls mail = absurd says

    pub ack_on : (f : List Reply → Next (Unit {0})) (a b c : DeskView) → Leads f (from i) a b → AckMade k s u.0 u.1 (Ok tt) b c → Leads f (from (i + 1)) a c
    ack_on f a b c h x = on_at (u.1.shard == k) x.reply f a b c refl x.says h x.calls x.mail

    pub ack_failed : (f : List Reply → Next (Unit {0})) (end : SessionEnd) (a b c : DeskView) → Leads f (from i) a b → AckMade k s u.0 u.1 (Err end) b c → Steps f (Err end) a c
    ack_failed f end a b c h x = failed_at (u.1.shard == k) end x.reply f a b c refl x.says h x.calls x.mail

  quiet_at : (here : Bool) (end : SessionEnd) (o : Option Reply) → AckSays here (Err end) o → IsQuiet (Err end)
  quiet_at true Ended (Some r) says = tt
  quiet_at test end o says = absurd says

  pub ack_quiet : (u : ChannelId × MsgId) (end : SessionEnd) (a b : DeskView) → AckMade k s u.0 u.1 (Err end) a b → IsQuiet (Err end)
  ack_quiet u end a b x = quiet_at (u.1.shard == k) end x.reply x.says

  pub acks_done : (f : List Reply → Next (Unit {0})) (i : ℕ) (a b : DeskView) → i ≡ length us → Leads f (from i) a b → Steps f (Ok tt) a b
  acks_done f i a b e h =
      let rest : drop i us ≡ [] = rw e (drop-length us) in
      leads_end f (acking k s []) (Ok tt) a b b (subst (λ (vs : List (ChannelId × MsgId)). Leads f (acking k s (acks_of k vs)) a b) rest h) (steps_over (acking k s []) (Ok tt) b refl)
