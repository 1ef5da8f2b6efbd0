-- Runs, from the end on: one more step in front.
use Rattle.std.proofs.Common.{◌≡◌, ℕ, true, false, List, [], ◌∷◌, ◌++◌, refl, ap, sym, ◌∙◌, subst, Result, Ok, Err, Option, Some, None}
use Rattle.std.proofs.lemmas.List.{append-nil}
use Rattle.push_model.specs.declared.step.Step.{Step}
use Rattle.push_model.specs.declared.reply.Reply.{Reply}
use Rattle.push_model.specs.Replies.{replies_to}
use Rattle.push_model.specs.DeskViews.{Made, made, Calls, Mails}
use Rattle.push_model.proofs.DeskLemmas.{calls_none, calls_more, mails_none, mails_more}
use Rattle.session_drive.specs.declared.ends.SessionEnd.{SessionEnd}
use Rattle.session_drive.specs.declared.ends.SessionEnd.TheVariants.{Stale, Outrun, Down, UaidSpent, TokenSpent, Ended, Refused, Left, ChatFault, NoMemory}
use Rattle.session_drive.specs.Chats.{Said, end_of}
use Rattle.session_drive.specs.Runs.{Next, Asks, Over, Never, replies_of, Follows, IsOpen, EndsBy, SendEndsBy, Sides, Runs, texts_by}
use Rattle.session_drive.specs.Asked.{Asked, AskEnds, Fits, asked, is_no_session, texts_in}
use Rattle.session_drive.proofs.ChatLemmas.{said_nothing, said_spent, said_then}

-- a step that went well
pub record Answered {A : Type 0} (k : ℕ) (x : Step) (texts : Reply → List (List ℕ)) (Means : A → Reply → Type 0) (answer : A) (r : Reply) (a b : Sides) : Type 0 where
  pub calls : Calls a.desks b.desks (made k x r ∷ [])
  pub mail : Mails a.desks b.desks []
  pub said : Said None (texts r) a.chat b.chat
  pub fits : replies_to x r ≡ true
  pub goes_on : is_no_session r ≡ false
  pub means : Means answer r

module _ {A : Type 0} (k : ℕ) (x : Step) (texts : Reply → List (List ℕ)) (Means : A → Reply → Type 0) where
  answered_by : (answer : A) (a b : Sides) (o : Option Reply) → Calls a.desks b.desks (asked k x o) → Mails a.desks b.desks [] → Fits x o → AskEnds Means (Ok answer) o → Said None (texts_in texts o) a.chat b.chat → (r : Reply) × Answered k x texts Means answer r a b
  answered_by answer a b None calls mail fits e said = absurd e
  answered_by answer a b (Some r) calls mail fits e said = (r, record { calls = calls; mail = mail; said = said; fits = fits; goes_on = e.0; means = e.1 })

  pub answered : (answer : A) (a b : Sides) → Asked k x texts Means (Ok answer) a b → (r : Reply) × Answered k x texts Means answer r a b
  answered answer a b h = answered_by answer a b h.reply h.calls h.mail h.fits h.ends h.said

module _ {A : Type 0} (next : List Reply → Next A) (texts : Reply → List (List ℕ)) where
  -- nothing comes any more
  pub run_over : (answer : A) (a : Sides) → next [] ≡ Over (Ok answer) → Runs next texts (Ok answer) a a
  run_over answer a e = record { made = []; calls = calls_none a.desks; mail = mails_none a.desks; follows = tt; ends = e; said = said_nothing a.chat }

  -- a step that went well, and then the others
  pub run_step : {B : Type 0} → (result : Result A SessionEnd) (k : ℕ) (x : Step) (Means : B → Reply → Type 0) (answer : B) (r : Reply) (a b c : Sides) → next [] ≡ Asks k x → Answered k x texts Means answer r a b → Runs (λ rs. next (r ∷ rs)) texts result b c → Runs next texts result a c
  run_step result k x Means answer r a b c e f g = record {
    made = made k x r ∷ g.made;
    calls = calls_more a.desks b.desks c.desks (made k x r ∷ []) g.made f.calls g.calls;
    mail = mails_more a.desks b.desks c.desks [] [] f.mail g.mail;
    follows = (e, g.follows);
    ends = g.ends;
    said = said_then (end_of result) (texts r) (texts_by texts (replies_of g.made)) a.chat b.chat c.chat f.said g.said;
  }

  open_at : (k : ℕ) (x : Step) → next [] ≡ Asks k x → IsOpen (next [])
  open_at k x e = subst IsOpen (sym e) tt

  -- how a failed step ends it
  failed_ends : {B : Type 0} → (Means : B → Reply → Type 0) (k : ℕ) (x : Step) (e : SessionEnd) (o : Option Reply) → next [] ≡ Asks k x
      → ((r : Reply) → is_no_session r ≡ true → next (r ∷ []) ≡ Over (Err Ended))
      → ((r : Reply) → replies_to x r ≡ true → is_no_session r ≡ false → IsOpen (next (r ∷ [])))
      → Fits x o → AskEnds Means (Err e) o → SendEndsBy (next (replies_of (asked k x o))) (Err e)
  failed_ends Means k x Ended (Some r) i ended goes fits h = ended r h
  failed_ends Means k x ChatFault (Some r) i ended goes fits h = goes r fits h
  failed_ends Means k x NoMemory (Some r) i ended goes fits h = goes r fits h
  failed_ends Means k x NoMemory None i ended goes fits h = open_at k x i
  failed_ends Means k x e o i ended goes fits h = absurd h

  asked_follows : (k : ℕ) (x : Step) (o : Option Reply) → next [] ≡ Asks k x → Follows next (asked k x o)
  asked_follows k x None e = tt
  asked_follows k x (Some r) e = (e, tt)

  asked_texts : (k : ℕ) (x : Step) (o : Option Reply) → texts_in texts o ≡ texts_by texts (replies_of (asked k x o))
  asked_texts k x None = refl
  asked_texts k x (Some r) = sym (append-nil (texts r))

  -- one step, and then the end
  pub run_asked : (result : Result A SessionEnd) (k : ℕ) (x : Step) (o : Option Reply) (a b : Sides) → next [] ≡ Asks k x → Calls a.desks b.desks (asked k x o) → Mails a.desks b.desks [] → SendEndsBy (next (replies_of (asked k x o))) result → Said (end_of result) (texts_in texts o) a.chat b.chat → Runs next texts result a b
  run_asked result k x o a b i calls mail ends said = record {
    made = asked k x o;
    calls = calls;
    mail = mail;
    follows = asked_follows k x o i;
    ends = ends;
    said = subst (λ (ts : List (List ℕ)). Said (end_of result) ts a.chat b.chat) (asked_texts k x o) said;
  }

  -- a step that failed
  pub run_failed : {B : Type 0} → (Means : B → Reply → Type 0) (e : SessionEnd) (k : ℕ) (x : Step) (a b : Sides) → next [] ≡ Asks k x
      → ((r : Reply) → is_no_session r ≡ true → next (r ∷ []) ≡ Over (Err Ended))
      → ((r : Reply) → replies_to x r ≡ true → is_no_session r ≡ false → IsOpen (next (r ∷ [])))
      → Asked k x texts Means (Err e) a b → Runs next texts (Err e) a b
  run_failed Means e k x a b i ended goes h = run_asked (Err e) k x h.reply a b i h.calls h.mail (failed_ends Means k x e h.reply i ended goes h.fits h.ends) h.said

  -- too many tokens were drawn
  pub run_spent : (a : Sides) → next [] ≡ Over (Err TokenSpent) → Runs next texts (Err TokenSpent) a a
  run_spent a e = record { made = []; calls = calls_none a.desks; mail = mails_none a.desks; follows = tt; ends = e; said = said_spent a.chat }
