-- A turn, exit by exit.
use Rattle.std.proofs.Common.{◌≡◌, ℕ, ◌+◌, ◌-◌, ◌^◌, Bool, true, false, List, [], ◌∷◌, length, refl, ap, sym, ◌∙◌, Result, Ok, Err}
use Rattle.std.specs.Prelude.{min}
use Rattle.push_model.specs.SessionKey.{SessionKey}
use Rattle.push_model.specs.declared.step.Step.TheVariants.{TakeDirect, TakeCheck, FetchTopic, FetchPlain}
use Rattle.push_model.specs.declared.reply.Reply.{Reply}
use Rattle.push_model.specs.declared.reply.Reply.TheVariants.{NoSession, Due, NotDue}
use Rattle.push_model.specs.Replies.{replies_to}
use Rattle.session_drive.specs.declared.ends.SessionEnd.{SessionEnd}
use Rattle.session_drive.specs.declared.ends.SessionEnd.TheVariants.{Ended}
use Rattle.session_drive.specs.declared.turns.Turned.{Turned}
use Rattle.session_drive.specs.declared.turns.Turned.TheVariants.{Sent}
use Rattle.session_drive.specs.Runs.{Next, Asks, Over, IsOpen, Sides, Runs}
use Rattle.session_drive.specs.Asked.{Asked, IsCount, is_no_session, page_of, page_texts}
use Rattle.session_drive.specs.Turns.{IsDue, TurnMade, check_next, is_due, turn_next, turned, unless_ended}
use Rattle.session_drive.proofs.RunLemmas.{Answered, run_over, run_step, run_failed}

-- ---- what comes after one reply

unless_goes : (r : Reply) (n : Next Turned) → is_no_session r ≡ false → unless_ended r n ≡ n
unless_goes r n e = rw e refl

unless_ends : (r : Reply) (n : Next Turned) → is_no_session r ≡ true → unless_ended r n ≡ Over (Err Ended)
unless_ends r n e = rw e refl

unless_open : (r : Reply) (n : Next Turned) → IsOpen n → is_no_session r ≡ false → IsOpen (unless_ended r n)
unless_open r n h e = rw e h

module _ (k : ℕ) (s : SessionKey) (n : ℕ) where
  check_ends : (r : Reply) → is_no_session r ≡ true → check_next k s n r ≡ Over (Err Ended)
  check_ends NoSession e = refl
  check_ends r e = let odd : false ≡ true = e in cc

  check_due : (r : Reply) → is_due r ≡ true → check_next k s n r ≡ Asks k (FetchTopic s)
  check_due Due e = refl
  check_due r e = let odd : false ≡ true = e in cc

  check_quiet : (r : Reply) → replies_to (TakeCheck s) r ≡ true → is_no_session r ≡ false → is_due r ≡ false → check_next k s n r ≡ Over (Ok (turned n))
  check_quiet NotDue f e d = refl
  check_quiet NoSession f e d = let odd : true ≡ false = e in cc
  check_quiet Due f e d = let odd : true ≡ false = d in cc
  check_quiet r f e d = let odd : false ≡ true = f in cc

  check_open : (r : Reply) → replies_to (TakeCheck s) r ≡ true → is_no_session r ≡ false → IsOpen (check_next k s n r)
  check_open NotDue f e = tt
  check_open Due f e = tt
  check_open NoSession f e = let odd : true ≡ false = e in cc
  check_open r f e = let odd : false ≡ true = f in cc

-- ---- one step, and then the others

module _ (k : ℕ) (s : SessionKey) where
  after_direct : (result : Result Turned SessionEnd) (n : ℕ) (d : Reply) (a b z : Sides) → Answered k (TakeDirect s) page_texts IsCount n d a b → Runs (λ rs. turn_next k s (d ∷ rs)) page_texts result b z → TurnMade k s result a z
  after_direct result n d a b z h g = run_step (turn_next k s) page_texts result k (TakeDirect s) IsCount n d a b z refl h g

  after_check : (result : Result Turned SessionEnd) (due : Bool) (d c : Reply) (a b z : Sides) → is_no_session d ≡ false → Answered k (TakeCheck s) page_texts IsDue due c a b → Runs (λ rs. turn_next k s (d ∷ c ∷ rs)) page_texts result b z → Runs (λ rs. turn_next k s (d ∷ rs)) page_texts result a z
  after_check result due d c a b z e h g = run_step (λ rs. turn_next k s (d ∷ rs)) page_texts result k (TakeCheck s) IsDue due c a b z (unless_goes d (Asks k (TakeCheck s)) e) h g

  after_topic : (result : Result Turned SessionEnd) (m : ℕ) (d c t : Reply) (a b z : Sides) → is_due c ≡ true → Answered k (FetchTopic s) page_texts IsCount m t a b → Runs (λ rs. turn_next k s (d ∷ c ∷ t ∷ rs)) page_texts result b z → Runs (λ rs. turn_next k s (d ∷ c ∷ rs)) page_texts result a z
  after_topic result m d c t a b z e h g = run_step (λ rs. turn_next k s (d ∷ c ∷ rs)) page_texts result k (FetchTopic s) IsCount m t a b z (check_due k s (length (page_of d)) c e) h g

  -- ---- the exits

  pub direct_failed : (e : SessionEnd) (a b : Sides) → Asked k (TakeDirect s) page_texts IsCount (Err e) a b → TurnMade k s (Err e) a b
  direct_failed e a b h = run_failed (turn_next k s) page_texts IsCount e k (TakeDirect s) a b refl
      (λ r i. unless_ends r (Asks k (TakeCheck s)) i) (λ r f i. unless_open r (Asks k (TakeCheck s)) tt i) h

  pub check_failed : (e : SessionEnd) (n : ℕ) (d : Reply) (a b c : Sides) → Answered k (TakeDirect s) page_texts IsCount n d a b → Asked k (TakeCheck s) page_texts IsDue (Err e) b c → TurnMade k s (Err e) a c
  check_failed e n d a b c f h = after_direct (Err e) n d a b c f
      (run_failed (λ rs. turn_next k s (d ∷ rs)) page_texts IsDue e k (TakeCheck s) b c (unless_goes d (Asks k (TakeCheck s)) f.goes_on)
      (λ r i. check_ends k s (length (page_of d)) r i) (λ r g i. check_open k s (length (page_of d)) r g i) h)

  pub not_due : (n : ℕ) (t : Turned) (d c : Reply) (due : Bool) (x y z : Sides) → due ≡ false → t ≡ turned n → Answered k (TakeDirect s) page_texts IsCount n d x y → Answered k (TakeCheck s) page_texts IsDue due c y z → TurnMade k s (Ok t) x z
  not_due n t d c due x y z waits is f g = after_direct (Ok t) n d x y z f (after_check (Ok t) due d c y z z f.goes_on g
      (run_over (λ rs. turn_next k s (d ∷ c ∷ rs)) page_texts t z
      (check_quiet k s (length (page_of d)) c g.fits g.goes_on (g.means ∙ waits) ∙ ap (λ m. Over (Ok (turned m))) (sym f.means) ∙ ap (λ u. Over (Ok u)) (sym is))))

  module _ (n : ℕ) (d c : Reply) (due : Bool) (w x y : Sides) (is_on : due ≡ true) (f : Answered k (TakeDirect s) page_texts IsCount n d w x) (g : Answered k (TakeCheck s) page_texts IsDue due c x y) where
    fetching : (result : Result Turned SessionEnd) (z : Sides) → Runs (λ rs. turn_next k s (d ∷ c ∷ rs)) page_texts result y z → TurnMade k s result w z
    fetching result z h = after_direct result n d w x z f (after_check result due d c x y z f.goes_on g h)

    pub topic_failed : (e : SessionEnd) (z : Sides) → Asked k (FetchTopic s) page_texts IsCount (Err e) y z → TurnMade k s (Err e) w z
    topic_failed e z h = fetching (Err e) z (run_failed (λ rs. turn_next k s (d ∷ c ∷ rs)) page_texts IsCount e k (FetchTopic s) y z (check_due k s (length (page_of d)) c (g.means ∙ is_on))
        (λ r i. unless_ends r (Asks k (FetchPlain s)) i) (λ r b i. unless_open r (Asks k (FetchPlain s)) tt i) h)

    abbrev all_sent : Reply → Reply → Next Turned
    all_sent t p = Over (Ok (Sent (min (length (page_of d) + length (page_of t) + length (page_of p)) (2 ^ 64 - 1))))

    pub plain_failed : (e : SessionEnd) (m : ℕ) (t : Reply) (u z : Sides) → Answered k (FetchTopic s) page_texts IsCount m t y u → Asked k (FetchPlain s) page_texts IsCount (Err e) u z → TurnMade k s (Err e) w z
    plain_failed e m t u z j h = fetching (Err e) z (after_topic (Err e) m d c t y u z (g.means ∙ is_on) j
        (run_failed (λ rs. turn_next k s (d ∷ c ∷ t ∷ rs)) page_texts IsCount e k (FetchPlain s) u z (unless_goes t (Asks k (FetchPlain s)) j.goes_on)
        (λ r i. unless_ends r (all_sent t r) i) (λ r b i. unless_open r (all_sent t r) tt i) h))

    pub all_shown : (m l r : ℕ) (t p : Reply) (u z : Sides) → r ≡ min (n + m + l) (2 ^ 64 - 1) → Answered k (FetchTopic s) page_texts IsCount m t y u → Answered k (FetchPlain s) page_texts IsCount l p u z → TurnMade k s (Ok (Sent r)) w z
    all_shown m l r t p u z total j h = fetching (Ok (Sent r)) z (after_topic (Ok (Sent r)) m d c t y u z (g.means ∙ is_on) j
        (run_step (λ rs. turn_next k s (d ∷ c ∷ t ∷ rs)) page_texts (Ok (Sent r)) k (FetchPlain s) IsCount l p u z z (unless_goes t (Asks k (FetchPlain s)) j.goes_on) h
        (run_over (λ rs. turn_next k s (d ∷ c ∷ t ∷ p ∷ rs)) page_texts (Sent r) z (unless_goes p (all_sent t p) h.goes_on ∙ rw (← f.means, ← j.means, ← h.means, total) refl))))
