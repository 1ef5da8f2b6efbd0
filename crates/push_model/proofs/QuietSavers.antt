-- What the steps of a saver reply, and what they leave of the user's channels and flights.
use Rattle.std.proofs.Common.{◌≡◌, ℕ, Bool, true, false, not, List, [], ◌∷◌, refl}
use Rattle.std.specs.Prelude.{find, Option, Some, None, ◌==◌, if◌then◌else◌}
use Rattle.std.specs.List.{list_any}
use Rattle.push_model.specs.declared.advance.Event.TheVariants.{Heard as HeardOf, Lost as LostOf, Read as ReadPlace}
use Rattle.push_model.specs.declared.step.Actor.TheVariants.{Saver as OfSaver}
use Rattle.push_model.specs.declared.step.Stage.{Stage}
use Rattle.push_model.specs.declared.step.Stage.TheVariants.{Reread as AtReread, Nudge as AtNudge, ToldNudge as AtToldNudge, Clear as AtClear, Saving as AtSaving}
use Rattle.push_model.specs.declared.step.Step.TheVariants.{Reread, Nudge, Heard, Lost, Close, Release, SaveOne, Clear}
use Rattle.push_model.specs.declared.standing.Verdict.{Verdict}
use Rattle.push_model.specs.declared.standing.Verdict.TheVariants.{Stays, Older, Full, Joins}
use Rattle.push_model.specs.declared.reply.Reply.{Reply}
use Rattle.push_model.specs.declared.reply.Reply.TheVariants.{NoSession, Stage as StageIs, Cleared, Kept}
use Rattle.push_model.specs.SessionKey.{SessionKey}
use Rattle.push_model.specs.MessageValue.{MessageValue}
use Rattle.push_model.specs.Messages.{is_expired}
use Rattle.push_model.specs.Rows.{verdict}
use Rattle.push_model.specs.Sessions.{Session, session_stage, is_session, is_attached_at}
use Rattle.push_model.specs.Cells.{Cell, Saver, channels_of, is_channel, is_routed_to, routed_place, rows_of}
use Rattle.push_model.specs.Advances.{read_advance, read_place, saver_heard_advance, saver_lost_advance}
use Rattle.push_model.specs.Outcomes.{outcome, advance_reply, read_reply}
use Rattle.push_model.specs.SaverSteps.{saver, saver_advance_of, unclosed, unclosed_reply, saver_heard, saver_lost, saver_reread, saver_nudge, saver_nudge_of, saver_nudge_at, saver_nudge_to, saver_clear, saver_clear_of, saver_clear_at, close, close_of, closed_reply, release, release_of, release_at, save, save_of, save_at, save_held, save_by}
use Rattle.push_model.specs.Replies.{replies_to}
use Rattle.push_model.proofs.SameChannels.{SameIn, same_cleared, same_stored, same_told, same_touched}
use Rattle.push_model.proofs.Quiet.{Quiet, RepliesTo, quiet, either}

-- ---- where the session isn't closed

unclosed_in : (p : Reply → Bool) → p NoSession ≡ true → ((t : Stage) → p (StageIs t) ≡ true) → (x : Option Session) → p (unclosed_reply x) ≡ true
unclosed_in p h k None = h
unclosed_in p h k (Some x) = k (session_stage x)

-- each step of a saver may reply so
not_closed : (p : Reply → Bool) → p NoSession ≡ true → ((t : Stage) → p (StageIs t) ≡ true) → (s : SessionKey) (c : Cell) → p (unclosed s c) ≡ true
not_closed p h k s c = unclosed_in p h k (find (is_session s) c.sessions)

-- ---- Heard, Lost and Reread

heard_at : (s : SessionKey) (r : Reply) (stage : Stage) → RepliesTo (Heard (OfSaver s)) (advance_reply (saver_heard_advance stage) r)
heard_at s r (AtToldNudge true n a) = refl
heard_at s r (AtToldNudge false n a) = refl
heard_at s r _ = refl

heard_by : (s : SessionKey) (c : Cell) (v : Option Saver) → RepliesTo (Heard (OfSaver s)) (advance_reply (saver_advance_of HeardOf v) (unclosed s c))
heard_by s c None = not_closed (replies_to (Heard (OfSaver s))) refl (λ t. refl) s c
heard_by s c (Some v) = heard_at s (unclosed s c) v.stage

pub saver_heard_quiet : (s : SessionKey) (c : Cell) → Quiet (Heard (OfSaver s)) c (saver_heard s c)
saver_heard_quiet s c = quiet refl refl refl (heard_by s c (saver s c))

lost_at : (s : SessionKey) (r : Reply) (stage : Stage) → RepliesTo (Lost (OfSaver s)) (advance_reply (saver_lost_advance stage) r)
lost_at s r (AtNudge n a) = refl
lost_at s r (AtToldNudge b n a) = refl
lost_at s r _ = refl

lost_by : (s : SessionKey) (c : Cell) (v : Option Saver) → RepliesTo (Lost (OfSaver s)) (advance_reply (saver_advance_of LostOf v) (unclosed s c))
lost_by s c None = not_closed (replies_to (Lost (OfSaver s))) refl (λ t. refl) s c
lost_by s c (Some v) = lost_at s (unclosed s c) v.stage

pub saver_lost_quiet : (s : SessionKey) (c : Cell) → Quiet (Lost (OfSaver s)) c (saver_lost s c)
saver_lost_quiet s c = quiet refl refl refl (lost_by s c (saver s c))

reread_place : (s : SessionKey) (r : Reply) (p : Option (ℕ × ℕ)) → RepliesTo (Reread (OfSaver s)) (read_reply (read_place 200 p) r)
reread_place s r None = refl
reread_place s r (Some p) = refl

reread_at : (s : SessionKey) (r : Reply) (p : Option (ℕ × ℕ)) (stage : Stage) →
    RepliesTo (Reread (OfSaver s)) (read_reply (read_advance 200 p stage) r)
reread_at s r p AtReread = reread_place s r p
reread_at s r p _ = refl

reread_by : (s : SessionKey) (c : Cell) (p : Option (ℕ × ℕ)) (v : Option Saver) →
    RepliesTo (Reread (OfSaver s)) (read_reply (saver_advance_of (ReadPlace p) v) (unclosed s c))
reread_by s c p None = not_closed (replies_to (Reread (OfSaver s))) refl (λ t. refl) s c
reread_by s c p (Some v) = reread_at s (unclosed s c) p v.stage

pub saver_reread_quiet : (s : SessionKey) (c : Cell) → Quiet (Reread (OfSaver s)) c (saver_reread s c)
saver_reread_quiet s c = quiet refl refl refl (reread_by s c (routed_place c.user) (saver s c))

-- ---- Nudge and Clear

nudge_to_quiet : (x : Option Session) (n a : ℕ) (s : SessionKey) (c : Cell) → Quiet (Nudge (OfSaver s)) c (saver_nudge_to x n a s c)
nudge_to_quiet None n a s c = quiet refl refl refl refl
nudge_to_quiet (Some x) n a s c = quiet refl refl (same_told n (Some x) c) refl

nudge_at_quiet : (stage : Stage) (s : SessionKey) (c : Cell) → Quiet (Nudge (OfSaver s)) c (saver_nudge_at stage s c)
nudge_at_quiet (AtNudge n a) s c = nudge_to_quiet (find (is_attached_at n) c.sessions) n a s c
nudge_at_quiet _ s c = quiet refl refl refl refl

nudge_of_quiet : (v : Option Saver) (s : SessionKey) (c : Cell) → Quiet (Nudge (OfSaver s)) c (saver_nudge_of v s c)
nudge_of_quiet None s c = quiet refl refl refl (not_closed (replies_to (Nudge (OfSaver s))) refl (λ t. refl) s c)
nudge_of_quiet (Some v) s c = nudge_at_quiet v.stage s c

pub saver_nudge_quiet : (s : SessionKey) (c : Cell) → Quiet (Nudge (OfSaver s)) c (saver_nudge s c)
saver_nudge_quiet s c = nudge_of_quiet (saver s c) s c

clear_at_quiet : (stage : Stage) (s : SessionKey) (c : Cell) → Quiet (Clear (OfSaver s)) c (saver_clear_at stage s c)
clear_at_quiet (AtClear n a) s c = quiet refl refl (same_cleared n a c.user) refl
clear_at_quiet _ s c = quiet refl refl refl refl

clear_of_quiet : (v : Option Saver) (s : SessionKey) (c : Cell) → Quiet (Clear (OfSaver s)) c (saver_clear_of v s c)
clear_of_quiet None s c = quiet refl refl refl (not_closed (replies_to (Clear (OfSaver s))) refl (λ t. refl) s c)
clear_of_quiet (Some v) s c = clear_at_quiet v.stage s c

pub saver_clear_quiet : (s : SessionKey) (c : Cell) → Quiet (Clear (OfSaver s)) c (saver_clear s c)
saver_clear_quiet s c = clear_of_quiet (saver s c) s c

-- ---- Close and Release

closed_elsewhere : (s : SessionKey) (v : Option Saver) → RepliesTo (Close s) (closed_reply v)
closed_elsewhere s None = refl
closed_elsewhere s (Some v) = refl

close_of_quiet : (x : Option Session) (moment : ℕ) (s : SessionKey) (c : Cell) → Quiet (Close s) c (close_of x moment s c)
close_of_quiet None moment s c = quiet refl refl refl (closed_elsewhere s (saver s c))
close_of_quiet (Some x) moment s c = quiet refl refl (same_touched moment c.user) refl

pub close_quiet : (moment : ℕ) (s : SessionKey) (c : Cell) → Quiet (Close s) c (close moment s c)
close_quiet moment s c = close_of_quiet (find (is_session s) c.sessions) moment s c

released : (s : SessionKey) (c d : Cell) (b : Bool) → d.uaid ≡ c.uaid → d.flights ≡ c.flights → SameIn c.user d.user →
    Quiet (Release s) c (outcome d (if b then Cleared else Kept))
released s c d true u f h = quiet u f h refl
released s c d false u f h = quiet u f h refl

release_at_quiet : (stage : Stage) (s : SessionKey) (c : Cell) → Quiet (Release s) c (release_at stage s c)
release_at_quiet AtSaving s c =
    released s c (release_at AtSaving s c).cell (is_routed_to s.node s.at c.user) refl refl (same_cleared s.node s.at c.user)
release_at_quiet _ s c = quiet refl refl refl refl

release_of_quiet : (v : Option Saver) (s : SessionKey) (c : Cell) → Quiet (Release s) c (release_of v s c)
release_of_quiet None s c = quiet refl refl refl (not_closed (replies_to (Release s)) refl (λ t. refl) s c)
release_of_quiet (Some v) s c = release_at_quiet v.stage s c

pub release_quiet : (s : SessionKey) (c : Cell) → Quiet (Release s) c (release s c)
release_quiet s c = release_of_quiet (saver s c) s c

-- ---- SaveOne

save_by_quiet : (d : Verdict) (s : SessionKey) (m : MessageValue) (ms : List MessageValue) (c : Cell) → Quiet (SaveOne s) c (save_by d s m ms c)
save_by_quiet Stays s m ms c = quiet refl refl refl refl
save_by_quiet Older s m ms c = quiet refl refl refl refl
save_by_quiet Full s m ms c = quiet refl refl (same_stored m c.user) refl
save_by_quiet Joins s m ms c = quiet refl refl (same_stored m c.user) refl

save_held_quiet : (ms : List MessageValue) (moment : ℕ) (s : SessionKey) (c : Cell) → Quiet (SaveOne s) c (save_held ms moment s c)
save_held_quiet [] moment s c = quiet refl refl refl refl
save_held_quiet (m ∷ ms) moment s c =
    either (not (list_any (is_channel m.chid) (channels_of c.user))) (quiet refl refl refl refl)
    (either (m.ask.terms.ttl == 0) (quiet refl refl refl refl)
    (either (is_expired moment m) (quiet refl refl refl refl) (save_by_quiet (verdict m (rows_of c.user)) s m ms c)))

save_at_quiet : (stage : Stage) (ms : List MessageValue) (moment : ℕ) (s : SessionKey) (c : Cell) → Quiet (SaveOne s) c (save_at stage ms moment s c)
save_at_quiet AtSaving ms moment s c = save_held_quiet ms moment s c
save_at_quiet _ ms moment s c = quiet refl refl refl refl

save_of_quiet : (v : Option Saver) (moment : ℕ) (s : SessionKey) (c : Cell) → Quiet (SaveOne s) c (save_of v moment s c)
save_of_quiet None moment s c = quiet refl refl refl (not_closed (replies_to (SaveOne s)) refl (λ t. refl) s c)
save_of_quiet (Some v) moment s c = save_at_quiet v.stage v.held moment s c

pub save_quiet : (moment : ℕ) (s : SessionKey) (c : Cell) → Quiet (SaveOne s) c (save moment s c)
save_quiet moment s c = save_of_quiet (saver s c) moment s c
