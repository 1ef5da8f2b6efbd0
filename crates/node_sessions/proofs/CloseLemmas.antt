-- Sessions are closed one after the other, the last first.
use Rattle.std.proofs.Common.{◌≡◌, ◌+◌, ℕ, List, [], ◌∷◌, ◌++◌, length, refl, ap, sym, ◌∙◌, append_assoc, arith, subst, Option, Some}
use Rattle.std.proofs.lemmas.List.{append-nil, length_push, nil_from_length}
use Rattle.push_model.specs.DeskViews.{DeskView}
use Rattle.push_model.specs.SessionKey.{SessionKey}
use Rattle.session_front.specs.Pumps.{Finishes, Shuts}
use Rattle.ws_front.specs.declared.marks.Marks.{Marks}
use Rattle.node_sessions.specs.Seats.{SeatView, web_chat}
use Rattle.node_sessions.specs.Closes.{SeatClosed, SeatsClosed}

-- one is closed
pub closed_one : (seat : SeatView) (s : Option SessionKey) (marks marks' : Marks) (a b : DeskView) (before after : ℕ)
    → s ≡ seat.live.s → marks ≡ seat.marks → Shuts s a b before after → Finishes (Some 1001) (web_chat marks) (web_chat marks') → SeatClosed seat a b before after
closed_one seat s marks marks' a b before after e f h k = record {
  shuts = subst (λ (t : Option SessionKey). Shuts t a b before after) e h;
  end = web_chat marks';
  finishes = subst (λ (m : Marks). Finishes (Some 1001) (web_chat m) (web_chat marks')) f k;
}

-- so many were closed of these, and the others are left
pub record ClosedSo (all left : List SeatView) (count : ℕ) (a b : DeskView) (before after : ℕ) : Type 0 where
  pub rest : List SeatView
  pub is : all ≡ left ++ rest
  pub closed : SeatsClosed rest a b before after
  pub size : length left + count ≡ length all

pub closed_none : (all : List SeatView) (a : DeskView) (faults : ℕ) → ClosedSo all all 0 a a faults faults
closed_none all a faults = record { rest = []; is = sym (append-nil all); closed = (refl, refl); size = omega arith }

pub closed_more : (all left less : List SeatView) (seat : SeatView) (count : ℕ) (a b c : DeskView) (before between after : ℕ)
    → ClosedSo all left count a b before between → left ≡ less ++ seat ∷ [] → SeatClosed seat b c between after → ClosedSo all less (count + 1) a c before after
closed_more all left less seat count a b c before between after so e h = record {
  rest = seat ∷ so.rest;
  is = so.is ∙ (ap (λ l. l ++ so.rest) e ∙ append_assoc less (seat ∷ []) so.rest);
  closed = (b, between, so.closed, h);
  size = omega (arith, so.size, ap length e, length_push less seat);
}

-- once none is left all were closed
pub closed_all : (all left : List SeatView) (count : ℕ) (a b : DeskView) (before after : ℕ) → ClosedSo all left count a b before after → left ≡ [] → SeatsClosed all a b before after
closed_all all left count a b before after so e =
    subst (λ (l : List SeatView). SeatsClosed l a b before after) (sym (so.is ∙ ap (λ l. l ++ so.rest) e)) so.closed

pub closed_at : (all left : List SeatView) (count : ℕ) (a b : DeskView) (before after : ℕ) → ClosedSo all left count a b before after → count ≡ length all → SeatsClosed all a b before after
closed_at all left count a b before after so e = closed_all all left count a b before after so (nil_from_length left (omega (arith, so.size, e)))
