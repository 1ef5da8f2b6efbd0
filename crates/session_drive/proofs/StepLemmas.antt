-- Steps that follow one another.
use Rattle.std.proofs.Common.{◌≡◌, ℕ, List, [], ◌∷◌, ◌++◌, refl, ap, sym, ◌∙◌, append_assoc, subst, Result, Option, Some, None}
use Rattle.std.proofs.lemmas.List.{append-nil, map-append}
use Rattle.push_model.specs.declared.step.Step.{Step}
use Rattle.push_model.specs.declared.reply.Reply.{Reply}
use Rattle.push_model.specs.DeskViews.{DeskView, Made, made}
use Rattle.push_model.proofs.DeskLemmas.{calls_none, calls_more, mails_none, mails_more}
use Rattle.session_drive.specs.declared.ends.SessionEnd.{SessionEnd}
use Rattle.session_drive.specs.Runs.{Next, Asks, Follows, EndsBy, Steps, replies_of}
use Rattle.session_drive.specs.Hellos.{tick_to}
use Rattle.session_drive.specs.Begins.{Leads, Ticks}

pub replies_more : (ms ns : List Made) → replies_of (ms ++ ns) ≡ replies_of ms ++ replies_of ns
replies_more ms ns = map-append (λ (m : Made). m.reply) ms ns

module _ {A : Type 0} where
  follows_same : (f g : List Reply → Next A) (ms : List Made) → ((rs : List Reply) → f rs ≡ g rs) → Follows g ms → Follows f ms
  follows_same f g [] e h = tt
  follows_same f g (m ∷ ms) e h = (e [] ∙ h.0, follows_same (λ rs. f (m.reply ∷ rs)) (λ rs. g (m.reply ∷ rs)) ms (λ rs. e (m.reply ∷ rs)) h.1)

  pub follows_then : (f g : List Reply → Next A) (ms ns : List Made) → Follows f ms → ((rs : List Reply) → f (replies_of ms ++ rs) ≡ g rs) → Follows g ns → Follows f (ms ++ ns)
  follows_then f g [] ns h e k = follows_same f g ns e k
  follows_then f g (m ∷ ms) ns h e k = (h.0, follows_then (λ rs. f (m.reply ∷ rs)) g ms ns h.1 e k)

  abbrev pub leads_none : (f : List Reply → Next A) (a : DeskView) → Leads f f a a
  leads_none f a = record { made = []; calls = calls_none a; mail = mails_none a; follows = tt; on = λ rs. refl }

  abbrev pub leads_then : (f g h : List Reply → Next A) (a b c : DeskView) → Leads f g a b → Leads g h b c → Leads f h a c
  leads_then f g h a b c x y = record {
    made = x.made ++ y.made;
    calls = calls_more a b c x.made y.made x.calls y.calls;
    mail = mails_more a b c [] [] x.mail y.mail;
    follows = follows_then f g x.made y.made x.follows x.on y.follows;
    on = λ rs. ap f (ap (λ l. l ++ rs) (replies_more x.made y.made) ∙ append_assoc (replies_of x.made) (replies_of y.made) rs) ∙ (x.on (replies_of y.made ++ rs) ∙ y.on rs);
  }

  pub leads_end : (f g : List Reply → Next A) (result : Result A SessionEnd) (a b c : DeskView) → Leads f g a b → Steps g result b c → Steps f result a c
  leads_end f g result a b c x y = record {
    made = x.made ++ y.made;
    calls = calls_more a b c x.made y.made x.calls y.calls;
    mail = mails_more a b c [] [] x.mail y.mail;
    follows = follows_then f g x.made y.made x.follows x.on y.follows;
    ends = subst (λ (n : Next A). EndsBy n result) (sym (ap f (replies_more x.made y.made) ∙ x.on (replies_of y.made))) y.ends;
  }

  -- no step is made any more
  pub steps_over : (f : List Reply → Next A) (result : Result A SessionEnd) (a : DeskView) → EndsBy (f []) result → Steps f result a a
  steps_over f result a e = record { made = []; calls = calls_none a; mail = mails_none a; follows = tt; ends = e }

  -- a Tick and a step
  pub ticks_lead : (f g : List Reply → Next A) (k at : ℕ) (x : Step) (r : Reply) (a b : DeskView) → f [] ≡ Asks k (tick_to at) → ((t : Reply) → f (t ∷ []) ≡ Asks k x) → ((t : Reply) (rs : List Reply) → f (t ∷ r ∷ rs) ≡ g rs) → Ticks k at x (Some r) a b → Leads f g a b
  ticks_lead f g k at x r a b e s n h = record {
    made = made k (tick_to at) h.tick ∷ made k x r ∷ [];
    calls = h.calls;
    mail = h.mail;
    follows = (e, (s h.tick, tt));
    on = λ rs. n h.tick rs;
  }

  -- a Tick, and no step behind it
  pub ticks_end : (f : List Reply → Next A) (result : Result A SessionEnd) (k at : ℕ) (x : Step) (a b : DeskView) → f [] ≡ Asks k (tick_to at) → ((t : Reply) → EndsBy (f (t ∷ [])) result) → Ticks k at x None a b → Steps f result a b
  ticks_end f result k at x a b e n h = record { made = made k (tick_to at) h.tick ∷ []; calls = h.calls; mail = h.mail; follows = (e, tt); ends = n h.tick }
