-- What a call of the lone desk did, by its note.
use Rattle.std.proofs.Common.{◌≡◌, ℕ, zero, suc, ◌<◌, ◌≤◌, ◌==◌, Bool, true, false, cond, List, [], ◌∷◌, ◌++◌, refl, sym, ap, ◌∙◌, subst, arith, append-nil, length-set, get_or-set_same, get_or-set_other}
use Rattle.std.proofs.lemmas.Bool.{eqb-true}
use Rattle.std.proofs.lemmas.List.Elements.{filter-append}
use mathlib.Core.Logic.{dite}
use native.Mathlib.Decide.{ℕ_discrete}
use Rattle.push_model.specs.declared.entry.Entry.{Entry}
use Rattle.push_model.specs.declared.mail.MailChange.{MailChange}
use Rattle.push_model.specs.declared.mail.MailEntry.{MailEntry}
use Rattle.push_model.specs.declared.reply.Reply.{Reply}
use Rattle.push_model.specs.declared.step.Step.{Step}
use Rattle.push_model.specs.Worlds.{World}
use Rattle.push_model.specs.Steps.{proper, step}
use Rattle.push_model.specs.Histories.{entry, world_after}
use Rattle.push_model.specs.MailWords.{IsFound, IsLegalMail, mail_entry, out}
use Rattle.push_model.specs.DeskViews.{Calls, EndsWith, IsSameDesk, MailEndsWith, Mails, made, written}
use Rattle.push_model.proofs.HistoryLemmas.{after_step, legal_step, proper_last}
use Rattle.push_model.proofs.MailLemmas.{legal_mail_last}
use Rattle.push_model.proofs.DeskLemmas.{calls_one, calls_still, mails_one, mails_still}
use Rattle.lone_desk.specs.declared.notes.Notes.{Notes}
use Rattle.lone_desk.specs.Notes.{IsNoted, mail_at, with_entries, with_mail}
use Rattle.lone_desk.specs.LoneViews.{lone_view}

-- on another shard nothing is seen
away : {A : Type 0} → (xs ys : List A) (j : ℕ) (b : Bool) → (j == 0) ≡ b → (j ≡ 0 → ⊥) → cond (j == 0) xs [] ≡ cond (j == 0) ys []
away xs ys j true e n = absurd (n (eqb-true j 0 e))
away xs ys j false e n = rw e refl

same_desk : (v m : Notes) → m.first ≡ v.first → IsSameDesk (lone_view v) (lone_view m)
same_desk v m e = record { size = refl; board = λ k. refl; number = λ k. refl; is_own = λ k n. refl; opened = λ k. e }

-- ---- a step

pub record CallDone (v m : Notes) (next : World) (k : ℕ) (x : Step) (r : Reply) : Type 0 where
  pub noted : IsNoted m next
  pub calls : Calls (lone_view v) (lone_view m) (made k x r ∷ [])
  pub last : EndsWith (lone_view v) (lone_view m) k x r
  pub mails : Mails (lone_view v) (lone_view m) []
  pub leads : world_after step ((lone_view m).opened k) ((lone_view m).seen k) ≡ next

module _ (v : Notes) (w next : World) (x : Step) (r : Reply) (h : IsNoted v w) (did : step w x ≡ (next, r)) (p : proper 0 x ≡ true) where
  noted_entry : IsNoted (with_entries v (entry 0 x r ∷ [])) next
  noted_entry = record {
    numbered = h.numbered;
    legal = legal_step step v.first w next v.seen 0 x r h.legal h.leads did;
    leads = after_step step v.first w next v.seen 0 x r h.leads did;
    each_proper = proper_last proper v.seen (entry 0 x r) h.each_proper p;
    alone = filter-append (λ (e : Entry Step Reply). e.by == 0) v.seen (entry 0 x r ∷ []) ∙ ap (λ (es : List (Entry Step Reply)). es ++ entry 0 x r ∷ []) h.alone;
    eight = h.eight;
    mail = h.mail;
  }

  entry_last : EndsWith (lone_view v) (lone_view (with_entries v (entry 0 x r ∷ []))) 0 x r
  entry_last = record {
    between = [];
    seen = ap (λ (es : List (Entry Step Reply)). es ++ entry 0 x r ∷ []) (sym (append-nil v.seen));
    foreign = tt;
    legal = noted_entry.legal;
    each_proper = noted_entry.each_proper;
  }

  entry_done : CallDone v (with_entries v (entry 0 x r ∷ [])) next 0 x r
  entry_done =
      let m : Notes = with_entries v (entry 0 x r ∷ []) in
      let same : IsSameDesk (lone_view v) (lone_view m) = same_desk v m refl in
      record {
        noted = noted_entry;
        calls = calls_one (lone_view v) (lone_view m) 0 x r (record { same = same; signs = refl; last = entry_last; others = λ j n. away m.seen v.seen j (j == 0) refl n });
        last = entry_last;
        mails = mails_still (lone_view v) (lone_view m) same (λ j n. refl);
        leads = noted_entry.leads;
      }

-- n is the view v of the desk before
pub called : (n v m : Notes) (w next : World) (k : ℕ) (x said : Step) (r : Reply) → n ≡ v → k < 1 → IsNoted n w → step w x ≡ (next, r) → proper 0 x ≡ true →
    said ≡ x → m ≡ with_entries n (entry 0 said r ∷ []) → CallDone v m next k x r
called n v m w next k x said r view low h did p same is =
    let zeroth : 0 ≡ k = omega arith in
    let noted : m ≡ with_entries n (entry 0 x r ∷ []) = is ∙ ap (λ (y : Step). with_entries n (entry 0 y r ∷ [])) same in
    subst (λ (j : ℕ). CallDone v m next j x r) zeroth
    (subst (λ (l : Notes). CallDone l m next 0 x r) view (subst (λ (l : Notes). CallDone n l next 0 x r) (sym noted) (entry_done n w next x r h did p)))

-- ---- mail

pub record MailDone (v m : Notes) (w : World) (k n : ℕ) (c : MailChange) : Type 0 where
  pub noted : IsNoted m w
  pub calls : Calls (lone_view v) (lone_view m) []
  pub mails : Mails (lone_view v) (lone_view m) (written k n c ∷ [])
  pub last : MailEndsWith (lone_view v) (lone_view m) k n c

module _ (v : Notes) (w : World) (k : ℕ) (c : MailChange) (h : IsNoted v w) (low : k < 8) (f : IsFound (out (mail_at v (suc k))) c) where
  abbrev change : MailEntry
  change = mail_entry 0 c

  here : mail_at (with_mail v (suc k) change) (suc k) ≡ mail_at v (suc k) ++ change ∷ []
  here = get_or-set_same v.mail k (mail_at v (suc k) ++ change ∷ []) [] (let e = h.eight in omega arith)

  elsewhere : (n : ℕ) → (n ≡ suc k → ⊥) → mail_at (with_mail v (suc k) change) n ≡ mail_at v n
  elsewhere zero n = refl
  elsewhere (suc i) n = get_or-set_other v.mail k i (mail_at v (suc k) ++ change ∷ []) [] (λ e. n (ap suc e))

  legal_here : IsLegalMail (mail_at (with_mail v (suc k) change) (suc k))
  legal_here = subst IsLegalMail (sym here) (legal_mail_last (mail_at v (suc k)) change (h.mail (suc k)) f)

  legal_at : (n : ℕ) → IsLegalMail (mail_at (with_mail v (suc k) change) n)
  legal_at n = dite (ℕ_discrete n (suc k))
      (λ e. subst (λ (z : ℕ). IsLegalMail (mail_at (with_mail v (suc k) change) z)) (sym e) legal_here)
      (λ ne. subst IsLegalMail (sym (elsewhere n ne)) (h.mail n))

  change_last : MailEndsWith (lone_view v) (lone_view (with_mail v (suc k) change)) 0 (suc k) c
  change_last = record {
    between = [];
    mail = here ∙ ap (λ (es : List MailEntry). es ++ change ∷ []) (sym (append-nil (mail_at v (suc k))));
    foreign = tt;
    found = subst (λ (es : List MailEntry). IsFound (out es) c) (sym (append-nil (mail_at v (suc k)))) f;
    legal = legal_here;
  }

  others : (j n : ℕ) (b : Bool) → (j == 0) ≡ b → ((j ≡ 0) × (n ≡ suc k) → ⊥) →
      cond (j == 0) (mail_at (with_mail v (suc k) change) n) [] ≡ cond (j == 0) (mail_at v n) []
  others j n true e ne = ap (λ (es : List MailEntry). cond (j == 0) es []) (elsewhere n (λ is. ne (eqb-true j 0 e, is)))
  others j n false e ne = rw e refl

  change_done : MailDone v (with_mail v (suc k) change) w 0 (suc k) c
  change_done =
      let m : Notes = with_mail v (suc k) change in
      let same : IsSameDesk (lone_view v) (lone_view m) = same_desk v m refl in
      record {
        noted = record { numbered = h.numbered; legal = h.legal; leads = h.leads; each_proper = h.each_proper; alone = h.alone; eight = length-set v.mail k (mail_at v (suc k) ++ change ∷ []) ∙ h.eight; mail = legal_at };
        calls = calls_still (lone_view v) (lone_view m) same (λ j. refl);
        mails = mails_one (lone_view v) (lone_view m) 0 (suc k) c (record { same = same; signs = refl; last = change_last; others = λ j n. others j n (j == 0) refl });
        last = change_last;
      }

pub mailed : (n v m : Notes) (w : World) (k node : ℕ) (c : MailChange) → n ≡ v → k < 1 → 1 ≤ node → node ≤ 8 → IsNoted n w → IsFound (out (mail_at n node)) c →
    m ≡ with_mail n node (mail_entry 0 c) → MailDone v m w k node c
mailed n v m w k zero c view low some few h f is = absurd (let none : ⊥ = omega arith in none)
mailed n v m w k (suc i) c view low some few h f is =
    let zeroth : 0 ≡ k = omega arith in
    subst (λ (j : ℕ). MailDone v m w j (suc i) c) zeroth
    (subst (λ (l : Notes). MailDone l m w 0 (suc i) c) view (subst (λ (l : Notes). MailDone n l w 0 (suc i) c) (sym is) (change_done n w i c h (omega arith) f)))
