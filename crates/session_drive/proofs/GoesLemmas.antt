-- Runs that go on behind others.
use Rattle.std.proofs.Common.{◌≡◌, ℕ, List, [], ◌∷◌, ◌++◌, refl, ap, sym, ◌∙◌, append_assoc, subst, Result, Ok, Err, Option, Some, None}
use Rattle.std.proofs.lemmas.List.{append-nil}
use Rattle.push_model.specs.declared.step.Step.{Step}
use Rattle.push_model.specs.declared.reply.Reply.{Reply}
use Rattle.push_model.specs.DeskViews.{DeskView, Made, made, Calls, Mails}
use Rattle.push_model.proofs.DeskLemmas.{calls_more, calls_none, mails_more, mails_none}
use Rattle.session_drive.specs.declared.ends.SessionEnd.{SessionEnd}
use Rattle.session_drive.specs.declared.ends.SessionEnd.TheVariants.{Ended}
use Rattle.session_drive.specs.Chats.{ChatView, Said, end_of}
use Rattle.session_drive.specs.Runs.{Next, Asks, Follows, EndsBy, SendEndsBy, Sides, Steps, Runs, replies_of, texts_by}
use Rattle.session_drive.specs.Begins.{Leads}
use Rattle.session_drive.specs.Answers.{IsQuiet, no_texts}
use Rattle.session_drive.proofs.ChatLemmas.{said_nothing, said_ended, said_then}
use Rattle.session_drive.proofs.StepLemmas.{follows_then, leads_none, leads_then, replies_more}

-- what comes next of one is what comes first of the other, and the texts of the replies so far were sent
pub record Goes {A : Type 0} (f g : List Reply → Next A) (texts : Reply → List (List ℕ)) (a b : Sides) : Type 0 where
  pub leads : Leads f g a.desks b.desks
  pub said : Said None (texts_by texts (replies_of leads.made)) a.chat b.chat

texts_more : (texts : Reply → List (List ℕ)) (rs qs : List Reply) → texts_by texts (rs ++ qs) ≡ texts_by texts rs ++ texts_by texts qs
texts_more texts [] qs = refl
texts_more texts (r ∷ rs) qs = ap (λ l. texts r ++ l) (texts_more texts rs qs) ∙ sym (append_assoc (texts r) (texts_by texts rs) (texts_by texts qs))

texts_made : (texts : Reply → List (List ℕ)) (ms ns : List Made) → texts_by texts (replies_of ms) ++ texts_by texts (replies_of ns) ≡ texts_by texts (replies_of (ms ++ ns))
texts_made texts ms ns = sym (ap (texts_by texts) (replies_more ms ns) ∙ texts_more texts (replies_of ms) (replies_of ns))

-- a step that leads on
abbrev pub lead_one : {A : Type 0} → (f g : List Reply → Next A) (k : ℕ) (x : Step) (r : Reply) (a b : DeskView) → f [] ≡ Asks k x → ((rs : List Reply) → f (r ∷ rs) ≡ g rs) → Calls a b (made k x r ∷ []) → Mails a b [] → Leads f g a b
lead_one f g k x r a b e n calls mail = record { made = made k x r ∷ []; calls = calls; mail = mail; follows = (e, tt); on = n }

-- and one that is the last
pub step_last : {A : Type 0} → (f : List Reply → Next A) (result : Result A SessionEnd) (k : ℕ) (x : Step) (r : Reply) (a b : DeskView) → f [] ≡ Asks k x → EndsBy (f (r ∷ [])) result → Calls a b (made k x r ∷ []) → Mails a b [] → Steps f result a b
step_last f result k x r a b e n calls mail = record { made = made k x r ∷ []; calls = calls; mail = mail; follows = (e, tt); ends = n }

-- no step, and the same comes next by another name
pub leads_as : {A : Type 0} → (f g : List Reply → Next A) (a : DeskView) → ((rs : List Reply) → f rs ≡ g rs) → Leads f g a a
leads_as f g a e = record { made = []; calls = calls_none a; mail = mails_none a; follows = tt; on = e }

module _ {A : Type 0} (texts : Reply → List (List ℕ)) where
  pub goes_none : (f : List Reply → Next A) (a : Sides) → Goes f f texts a a
  goes_none f a = record { leads = leads_none f a.desks; said = said_nothing a.chat }

  pub goes_then : (f g h : List Reply → Next A) (a b c : Sides) → Goes f g texts a b → Goes g h texts b c → Goes f h texts a c
  goes_then f g h a b c x y = record {
    leads = leads_then f g h a.desks b.desks c.desks x.leads y.leads;
    said = subst (λ (ts : List (List ℕ)). Said None ts a.chat c.chat) (texts_made texts x.leads.made y.leads.made)
        (said_then None (texts_by texts (replies_of x.leads.made)) (texts_by texts (replies_of y.leads.made)) a.chat b.chat c.chat x.said y.said);
  }

  pub goes_end : (f g : List Reply → Next A) (result : Result A SessionEnd) (a b c : Sides) → Goes f g texts a b → Runs g texts result b c → Runs f texts result a c
  goes_end f g result a b c x y = record {
    made = x.leads.made ++ y.made;
    calls = calls_more a.desks b.desks c.desks x.leads.made y.made x.leads.calls y.calls;
    mail = mails_more a.desks b.desks c.desks [] [] x.leads.mail y.mail;
    follows = follows_then f g x.leads.made y.made x.leads.follows x.leads.on y.follows;
    ends = subst (λ (n : Next A). SendEndsBy n result) (sym (ap f (replies_more x.leads.made y.made) ∙ x.leads.on (replies_of y.made))) y.ends;
    said = subst (λ (ts : List (List ℕ)). Said (end_of result) ts a.chat c.chat) (texts_made texts x.leads.made y.made)
        (said_then (end_of result) (texts_by texts (replies_of x.leads.made)) (texts_by texts (replies_of y.made)) a.chat b.chat c.chat x.said y.said);
  }

-- ---- steps to which nothing is sent

no_texts_by : (rs : List Reply) → [] ≡ texts_by no_texts rs
no_texts_by [] = refl
no_texts_by (r ∷ rs) = no_texts_by rs

quiet_ends : (next : Next (Unit {0})) (result : Result (Unit {0}) SessionEnd) → IsQuiet result → EndsBy next result → SendEndsBy next result
quiet_ends next (Ok u) q e = e
quiet_ends next (Err Ended) q e = e
quiet_ends next (Err end) q e = absurd q

quiet_said : (result : Result (Unit {0}) SessionEnd) (chat : ChatView) → IsQuiet result → Said (end_of result) [] chat chat
quiet_said (Ok u) chat q = said_nothing chat
quiet_said (Err Ended) chat q = said_ended chat
quiet_said (Err end) chat q = absurd q

pub quiet_runs : (next : List Reply → Next (Unit {0})) (result : Result (Unit {0}) SessionEnd) (x y : DeskView) (chat : ChatView) → Steps next result x y → IsQuiet result → Runs next no_texts result (record { desks = x; chat = chat }) (record { desks = y; chat = chat })
quiet_runs next result x y chat h q = record {
  made = h.made;
  calls = h.calls;
  mail = h.mail;
  follows = h.follows;
  ends = quiet_ends (next (replies_of h.made)) result q h.ends;
  said = subst (λ (ts : List (List ℕ)). Said (end_of result) ts chat chat) (no_texts_by (replies_of h.made)) (quiet_said result chat q);
}
