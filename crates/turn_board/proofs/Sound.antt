-- What a seat has seen stays legal.
use Rattle.std.specs.Prelude.{IfOk, OnErr}
use Rattle.std.proofs.Common.{Result, Ok, Err, ◌≡◌, ℕ, Bool, List, [], sym, ◌∙◌, subst}
use mathlib.Core.Logic.{dite}
use native.Mathlib.Decide.{ℕ_discrete}
use Rattle.push_model.specs.declared.entry.Entry.{Entry}
use Rattle.push_model.specs.declared.mail.MailChange.{MailChange}
use Rattle.push_model.specs.declared.mail.MailEntry.{MailEntry}
use Rattle.push_model.specs.Histories.{IsLegal, AllProper}
use Rattle.push_model.specs.MailWords.{IsLegalMail}
use Rattle.turn_board.specs.Views.{mail_at, opening_view}
use Rattle.turn_board.specs.Plays.{SeatState, IsSoundSeat}
use Rattle.turn_board.specs.Passes.{SlotEndsWith}
use Rattle.turn_board.proofs.TurnLemmas.{Called}

module _ {W S R : Type 0} (run : W → S → W × R) (proper : ℕ → S → Bool) where
  pub sound_opening : (w : W) (m : SeatState W S R) → m ≡ (opening_view w, []) → IsSoundSeat run proper m
  sound_opening w m is = subst (IsSoundSeat run proper) (sym is) record { legal = λ v e. tt; each_proper = tt; mail = λ slot. tt }

  -- where the same is seen
  pub sound_same : (me m : SeatState W S R) → IsSoundSeat run proper me → m.0.first ≡ me.0.first → m.0.seen ≡ me.0.seen → m.0.mail ≡ me.0.mail → IsSoundSeat run proper m
  sound_same me m h first seen mail = record {
    legal = λ w e. subst (IsLegal run w) (sym seen) (h.legal w (sym first ∙ e));
    each_proper = subst (AllProper proper) (sym seen) h.each_proper;
    mail = λ slot. subst (λ (ls : List (List MailEntry)). IsLegalMail (mail_at ls slot)) (sym mail) (h.mail slot);
  }

  -- after a call
  pub sound_call : {X Y : Type 0} → (r : Result X Y) (e : X → Entry S R) (me m : SeatState W S R) → IsSoundSeat run proper me → m.0.first ≡ me.0.first → m.0.mail ≡ me.0.mail → IfOk r (λ x. Called run proper me (e x) m) → OnErr r (m.0.seen ≡ me.0.seen) → IsSoundSeat run proper m
  sound_call (Ok x) e me m h first mail ok err = record {
    legal = ok.legal;
    each_proper = ok.each_proper;
    mail = λ slot. subst (λ (ls : List (List MailEntry)). IsLegalMail (mail_at ls slot)) (sym mail) (h.mail slot);
  }
  sound_call (Err y) e me m h first mail ok err = sound_same me m h first err mail

  -- after a change of a mail list
  pub sound_mail : (slot number : ℕ) (c : MailChange) (numbers : List ℕ) (me m : SeatState W S R) → IsSoundSeat run proper me → m.0.first ≡ me.0.first → m.0.seen ≡ me.0.seen → SlotEndsWith slot c number numbers me.0.mail m.0.mail → IsSoundSeat run proper m
  sound_mail slot number c numbers me m h first seen mail = record {
    legal = λ w e. subst (IsLegal run w) (sym seen) (h.legal w (sym first ∙ e));
    each_proper = subst (AllProper proper) (sym seen) h.each_proper;
    mail = λ k. dite (ℕ_discrete k slot)
        (λ e. subst (λ (z : ℕ). IsLegalMail (mail_at m.0.mail z)) (sym e) mail.legal)
        (λ n. subst IsLegalMail (sym (mail.others k n)) (h.mail k));
  }
