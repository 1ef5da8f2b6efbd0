-- The end of a session, message by message.
use Rattle.std.proofs.Common.{◌≡◌, ◌≢◌, ℕ, ◌+◌, ◌-◌, ◌^◌, ◌≤◌, ◌<◌, ◌==◌, Bool, true, false, List, [], ◌∷◌, ◌++◌, refl, ap, sym, ◌∙◌, subst, arith, Result, Ok, Option, Some, None}
use Rattle.std.specs.Prelude.{min}
use Rattle.std.proofs.lemmas.Bool.{le-leb, lt-leb, ne_eqb}
use Rattle.push_model.specs.SessionKey.{SessionKey}
use Rattle.push_model.specs.DeskViews.{DeskView, Calls, Mails, made}
use Rattle.push_model.specs.declared.step.Actor.TheVariants.{Saver}
use Rattle.push_model.specs.declared.step.Step.{Step}
use Rattle.push_model.specs.declared.step.Step.TheVariants.{Close, Release, SaveOne, Reread, Clear}
use Rattle.push_model.specs.declared.step.Stage.TheVariants.{Clear as AtClear}
use Rattle.push_model.specs.declared.reply.Reply.{Reply}
use Rattle.push_model.specs.declared.reply.Reply.TheVariants.{Saving, Saved, Left, AllSaved, Names, Moved}
use Rattle.node_routes.specs.declared.link.Linked.{Linked}
use Rattle.session_drive.specs.declared.ends.SessionEnd.{SessionEnd}
use Rattle.session_drive.specs.declared.saves.Handover.{Handover}
use Rattle.session_drive.specs.declared.saves.Save.{Save}
use Rattle.session_drive.specs.declared.saves.Save.TheVariants.{Kept, Passed, All, Gone}
use Rattle.session_drive.specs.declared.saves.Saves.{Saves}
use Rattle.session_drive.specs.declared.saves.Saves.TheVariants.{On, Over as IsOver}
use Rattle.session_drive.specs.Runs.{Next, Asks, Over, EndsBy, Steps}
use Rattle.session_drive.specs.Begins.{Leads}
use Rattle.session_drive.specs.Shuts.{Handed, ShutMade, Tells, ThenTells, clearing, closing, counted, heard_step, hearing, releasing, rereading, saving}
use Rattle.session_drive.specs.Saves.{HandsOver, OneStep, SavesOne, held_by, is_to_clear, named_by, save_by}
use Rattle.session_drive.proofs.StepLemmas.{leads_none, leads_then, leads_end, steps_over}
use Rattle.session_drive.proofs.GoesLemmas.{lead_one, leads_as, step_last}

module _ (k : ℕ) (s : SessionKey) where
  -- ---- one message

  module _ (n c m : ℕ) (low : c ≤ n) where
    asks : saving k s n c m [] ≡ Asks k (SaveOne s)
    asks = rw (le-leb c n low) refl

    kept_at : (r : Reply) (a b : DeskView) → Calls a b (made k (SaveOne s) r ∷ []) → Mails a b [] → Kept ≡ save_by r → Leads (saving k s n c m) (saving k s n (c + 1) (m + 1)) a b
    kept_at (Saved i) a b calls mail e = lead_one (saving k s n c m) (saving k s n (c + 1) (m + 1)) k (SaveOne s) (Saved i) a b asks (λ rs. refl) calls mail
    kept_at (Left i reason) a b calls mail e = cc
    kept_at AllSaved a b calls mail e = cc
    kept_at r a b calls mail e = cc

    passed_at : (r : Reply) (a b : DeskView) → Calls a b (made k (SaveOne s) r ∷ []) → Mails a b [] → Passed ≡ save_by r → Leads (saving k s n c m) (saving k s n (c + 1) m) a b
    passed_at (Left i reason) a b calls mail e = lead_one (saving k s n c m) (saving k s n (c + 1) m) k (SaveOne s) (Left i reason) a b asks (λ rs. refl) calls mail
    passed_at (Saved i) a b calls mail e = cc
    passed_at AllSaved a b calls mail e = cc
    passed_at r a b calls mail e = cc

    gone_at : (r : Reply) (a b : DeskView) → Calls a b (made k (SaveOne s) r ∷ []) → Mails a b [] → Gone ≡ save_by r → Steps (saving k s n c m) (Ok (m, None)) a b
    gone_at (Saved i) a b calls mail e = cc
    gone_at (Left i reason) a b calls mail e = cc
    gone_at AllSaved a b calls mail e = cc
    gone_at r a b calls mail e = step_last (saving k s n c m) (Ok (m, None)) k (SaveOne s) r a b asks refl calls mail

    all_at : (r : Reply) (a b : DeskView) → Calls a b (made k (SaveOne s) r ∷ []) → Mails a b [] → All ≡ save_by r → Leads (saving k s n c m) (λ rs. saving k s n c m (AllSaved ∷ rs)) a b
    all_at AllSaved a b calls mail e = lead_one (saving k s n c m) (λ rs. saving k s n c m (AllSaved ∷ rs)) k (SaveOne s) AllSaved a b asks (λ rs. refl) calls mail
    all_at (Saved i) a b calls mail e = cc
    all_at (Left i reason) a b calls mail e = cc
    all_at r a b calls mail e = cc

    pub saves_kept : (saved count : ℕ) (a b : DeskView) → saved ≡ counted m → count ≡ min (saved + 1) (2 ^ 32 - 1) → OneStep k (SaveOne s) save_by Kept a b → SavesOne k s n c m (On count) a b
    saves_kept saved count a b e f h = (m + 1, omega (arith, e, f), kept_at h.reply a b h.calls h.mail h.is)

    pub saves_passed : (saved : ℕ) (a b : DeskView) → saved ≡ counted m → OneStep k (SaveOne s) save_by Passed a b → SavesOne k s n c m (On saved) a b
    saves_passed saved a b e h = (m, e, passed_at h.reply a b h.calls h.mail h.is)

    pub saves_gone : (h : Handover) (a b : DeskView) → h.saved ≡ counted m → h.node ≡ None → OneStep k (SaveOne s) save_by Gone a b → SavesOne k s n c m (IsOver h) a b
    saves_gone h a b e f x = record {
      saved = m;
      count = e;
      steps = subst (λ (o : Option ℕ). Steps (saving k s n c m) (Ok (m, o)) a b) (sym f) (gone_at x.reply a b x.calls x.mail x.is);
    }

    pub saves_none : (h : Handover) (a b : DeskView) → h.saved ≡ counted m → h.saved ≡ 0 → h.node ≡ None → OneStep k (SaveOne s) save_by All a b → SavesOne k s n c m (IsOver h) a b
    saves_none h a b e z f x =
        let none : m ≡ 0 = omega (arith, e, z) in
        record {
          saved = m;
          count = e;
          steps = subst (λ (o : Option ℕ). Steps (saving k s n c m) (Ok (m, o)) a b) (sym f)
              (leads_end (saving k s n c m) (λ rs. saving k s n c m (AllSaved ∷ rs)) (Ok (m, None)) a b b (all_at x.reply a b x.calls x.mail x.is)
              (steps_over (λ rs. saving k s n c m (AllSaved ∷ rs)) (Ok (m, None)) b (rw none refl)));
        }

  reread_at : (m : ℕ) (node : Option ℕ) (r : Reply) (a b : DeskView) → Calls a b (made k (Reread (Saver s)) r ∷ []) → Mails a b [] → node ≡ named_by r → Steps (rereading k s m) (Ok (m, node)) a b
  reread_at m node (Names met at) a b calls mail e = step_last (rereading k s m) (Ok (m, node)) k (Reread (Saver s)) (Names met at) a b refl (ap (λ o. Over (Ok (m, o))) (sym e)) calls mail
  reread_at m node r a b calls mail e = step_last (rereading k s m) (Ok (m, node)) k (Reread (Saver s)) r a b refl (ap (λ o. Over (Ok (m, o))) (sym e)) calls mail

  pub saves_all : (n c m : ℕ) → c ≤ n → (h : Handover) (node : Option ℕ) (a b d : DeskView) → h.saved ≡ counted m → h.saved ≢ 0 → h.node ≡ node → OneStep k (SaveOne s) save_by All a b → OneStep k (Reread (Saver s)) named_by node b d → SavesOne k s n c m (IsOver h) a d
  saves_all n c m low h node a b d e z f x y =
      let some : m ≢ 0 = λ (i : m ≡ 0). z (e ∙ ap counted i) in
      record {
        saved = m;
        count = e;
        steps = subst (λ (o : Option ℕ). Steps (saving k s n c m) (Ok (m, o)) a d) (sym f)
            (leads_end (saving k s n c m) (λ rs. saving k s n c m (AllSaved ∷ rs)) (Ok (m, node)) a b d (all_at n c m low x.reply a b x.calls x.mail x.is)
            (leads_end (λ rs. saving k s n c m (AllSaved ∷ rs)) (rereading k s m) (Ok (m, node)) b b d
            (leads_as (λ rs. saving k s n c m (AllSaved ∷ rs)) (rereading k s m) b (λ rs. rw (ne_eqb m 0 some) refl))
            (reread_at m node y.reply b d y.calls y.mail y.is)));
      }

  -- ---- all messages

  -- c were looked at, and so many saved
  pub record SavedSoFar (n c saved : ℕ) (a b : DeskView) : Type 0 where
    pub number : ℕ
    pub count : saved ≡ counted number
    pub leads : Leads (saving k s n 0 0) (saving k s n c number) a b

  pub saved_none : (n : ℕ) (a : DeskView) → SavedSoFar n 0 0 a a
  saved_none n a = record { number = 0; count = refl; leads = leads_none (saving k s n 0 0) a }

  module _ (n c saved : ℕ) (a b d : DeskView) (so : SavedSoFar n c saved a b) where
    pub saved_on : (count : ℕ) → SavesOne k s n c so.number (On count) b d → SavedSoFar n (c + 1) count a d
    saved_on count h = record { number = h.0; count = h.1; leads = leads_then (saving k s n 0 0) (saving k s n c so.number) (saving k s n (c + 1) h.0) a b d so.leads h.2 }

    pub saved_over : (h : Handover) → SavesOne k s n c so.number (IsOver h) b d → HandsOver h (saving k s n 0 0) a d
    saved_over h g = record { saved = g.saved; count = g.count; steps = leads_end (saving k s n 0 0) (saving k s n c so.number) (Ok (g.saved, h.node)) a b d so.leads g.steps }

  pub saved_full : (n c saved : ℕ) (h : Handover) (a b : DeskView) → n < c → h.saved ≡ saved → h.node ≡ None → SavedSoFar n c saved a b → HandsOver h (saving k s n 0 0) a b
  saved_full n c saved h a b high e f so = record {
    saved = so.number;
    count = e ∙ so.count;
    steps = subst (λ (o : Option ℕ). Steps (saving k s n 0 0) (Ok (so.number, o)) a b) (sym f)
        (leads_end (saving k s n 0 0) (saving k s n c so.number) (Ok (so.number, None)) a b b so.leads (steps_over (saving k s n c so.number) (Ok (so.number, None)) b (rw (lt-leb c n high) refl)));
  }

  -- ---- the session

  closed_at : (r : Reply) (a b : DeskView) → Calls a b (made k (Close s) r ∷ []) → Mails a b [] → None ≡ held_by r → Steps (closing k s) (Ok (0, None)) a b
  closed_at (Saving n) a b calls mail e = cc
  closed_at r a b calls mail e = step_last (closing k s) (Ok (0, None)) k (Close s) r a b refl refl calls mail

  pub closed_none : (h : Handover) (a b : DeskView) → h.saved ≡ 0 → h.node ≡ None → OneStep k (Close s) held_by None a b → HandsOver h (closing k s) a b
  closed_none h a b e f x = record {
    saved = 0;
    count = e;
    steps = subst (λ (o : Option ℕ). Steps (closing k s) (Ok (0, o)) a b) (sym f) (closed_at x.reply a b x.calls x.mail x.is);
  }

  holds_at : (n : ℕ) (r : Reply) (a b : DeskView) → Calls a b (made k (Close s) r ∷ []) → Mails a b [] → Some n ≡ held_by r → Leads (closing k s) (releasing k s n) a b
  holds_at n (Saving m) a b calls mail e =
      let is : m ≡ n = cc in
      subst (λ (i : ℕ). Leads (closing k s) (releasing k s i) a b) is (lead_one (closing k s) (releasing k s m) k (Close s) (Saving m) a b refl (λ rs. refl) calls mail)
  holds_at n r a b calls mail e = cc

  pub closed_some : (h : Handover) (n : ℕ) (a b c d : DeskView) (r : Reply) → OneStep k (Close s) held_by (Some n) a b → Calls b c (made k (Release s) r ∷ []) → Mails b c [] → HandsOver h (saving k s n 0 0) c d → HandsOver h (closing k s) a d
  closed_some h n a b c d r x calls mail g = record {
    saved = g.saved;
    count = g.count;
    steps = leads_end (closing k s) (releasing k s n) (Ok (g.saved, h.node)) a b d (holds_at n x.reply a b x.calls x.mail x.is)
        (leads_end (releasing k s n) (saving k s n 0 0) (Ok (g.saved, h.node)) b c d (lead_one (releasing k s n) (saving k s n 0 0) k (Release s) r b c refl (λ rs. refl) calls mail) g.steps);
  }

  -- ---- what follows the link's answer

  clears_at : (answer : Linked) (r : Reply) (a b : DeskView) → Calls a b (made k (heard_step s answer) r ∷ []) → Mails a b [] → true ≡ is_to_clear r → Leads (hearing k s answer) (clearing k s) a b
  clears_at answer (Moved (AtClear node at)) a b calls mail e = lead_one (hearing k s answer) (clearing k s) k (heard_step s answer) (Moved (AtClear node at)) a b refl (λ rs. refl) calls mail
  clears_at answer (Moved stage) a b calls mail e = cc
  clears_at answer r a b calls mail e = cc

  heard_at : (answer : Linked) (r : Reply) (a b : DeskView) → Calls a b (made k (heard_step s answer) r ∷ []) → Mails a b [] → false ≡ is_to_clear r → Steps (hearing k s answer) (Ok tt) a b
  heard_at answer (Moved (AtClear node at)) a b calls mail e = cc
  heard_at answer (Moved stage) a b calls mail e = step_last (hearing k s answer) (Ok tt) k (heard_step s answer) (Moved stage) a b refl refl calls mail
  heard_at answer r a b calls mail e = step_last (hearing k s answer) (Ok tt) k (heard_step s answer) r a b refl refl calls mail

  pub heard_quiet : (answer : Linked) (a b : DeskView) → OneStep k (heard_step s answer) is_to_clear false a b → Steps (hearing k s answer) (Ok tt) a b
  heard_quiet answer a b x = heard_at answer x.reply a b x.calls x.mail x.is

  pub heard_cleared : (answer : Linked) (r : Reply) (a b c : DeskView) → OneStep k (heard_step s answer) is_to_clear true a b → Calls b c (made k (Clear (Saver s)) r ∷ []) → Mails b c [] → Steps (hearing k s answer) (Ok tt) a c
  heard_cleared answer r a b c x calls mail = leads_end (hearing k s answer) (clearing k s) (Ok tt) a b c (clears_at answer x.reply a b x.calls x.mail x.is) (step_last (clearing k s) (Ok tt) k (Clear (Saver s)) r b c refl refl calls mail)

  -- ---- the whole of it

  pub shut_told : (h : Handover) (node : ℕ) (a b c : DeskView) (before after : ℕ) → h.node ≡ Some node → HandsOver h (closing k s) a b → Tells k s node b c before after → ShutMade k s h.saved a c before after
  shut_told h node a b c before after is g t = record {
    saved = g.saved;
    named = h.node;
    middle = b;
    saves = g.steps;
    tells = subst (λ (o : Option ℕ). ThenTells k s o b c before after) (sym is) t;
    count = g.count;
  }
