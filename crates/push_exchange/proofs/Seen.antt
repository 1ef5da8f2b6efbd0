-- What is known of a pass, and what a call of its board leaves of that.
use Rattle.std.proofs.Common.{◌≡◌, ℕ, true, List, [], ◌∷◌, ◌++◌, drop, get_or, Option, Some, None, refl, sym, ap, ◌∙◌, subst}
use Rattle.std.specs.Coded.{Coded-set, coded_bool, coded_ℕ, ×_prop, Unit-prop}
use mathlib.Core.Logic.{∥∥₁_elim}
use Rattle.atomic_table.specs.Seated.{TableId}
use Rattle.push_model.specs.contracts.reply.Reply.{the_row as reply_row}
use Rattle.push_model.specs.declared.entry.Entry.{Entry}
use Rattle.push_model.specs.declared.mail.MailChange.{MailChange}
use Rattle.push_model.specs.declared.mail.MailChange.TheVariants.{Post, Taken}
use Rattle.push_model.specs.declared.mail.MailEntry.{MailEntry}
use Rattle.push_model.specs.declared.step.Step.{Step}
use Rattle.push_model.specs.declared.reply.Reply.{Reply}
use Rattle.push_model.specs.Worlds.{World}
use Rattle.push_model.specs.Steps.{proper, step}
use Rattle.push_model.specs.Histories.{AllProper, IsLegal}
use Rattle.push_model.specs.Reached.{IsReached}
use Rattle.push_model.specs.MailWords.{IsFound, IsLegalMailFrom, bits_after}
use Rattle.turn_board.specs.declared.object.Object.{Ghosts}
use Rattle.turn_board.specs.declared.pass.Pass.{Pass}
use Rattle.turn_board.specs.Numbers.{longer}
use Rattle.turn_board.specs.Views.{longer_each, mail_at}
use Rattle.turn_board.specs.Plays.{IsSoundSeat}
use Rattle.turn_board.specs.Seats.{is_there}
use Rattle.turn_board.specs.Passes.{HasPart, pass_first, pass_mail, pass_number, pass_numbers, pass_seen}
use Rattle.push_exchange.specs.PassViews.{IsJoinedPass, IsKept, PassView, board_name, view_of, world_or_start}

-- ---- the name of a board

abbrev named : List ℕ → TableId
named l = record { words = get_or l 0 0; slots = get_or l 1 0; views_name = get_or l 2 0; atom = get_or l 3 0; block = get_or l 4 0; offset = get_or l 5 0; slot_names = drop 6 l }

pub one_board : (y z : TableId) → board_name y ≡ board_name z → y ≡ z
one_board y z e = ap named e

-- ---- facts of which there is one proof at most

legal_prop : (w : World) (es : List (Entry Step Reply)) → IsProp (IsLegal step w es)
legal_prop w [] = Unit-prop
legal_prop w (e ∷ es) = ×_prop (Coded-set reply_row.coded e.reply (step w e.step).1) (legal_prop (step w e.step).0 es)

proper_prop : (es : List (Entry Step Reply)) → IsProp (AllProper proper es)
proper_prop [] = Unit-prop
proper_prop (e ∷ es) = ×_prop (Coded-set coded_bool (proper e.by e.step) true) (proper_prop es)

found_prop : (n : ℕ) (c : MailChange) → IsProp (IsFound n c)
found_prop n (Post bits) = Unit-prop
found_prop n (Taken bits) = Coded-set coded_ℕ bits n

mail_prop : (n : ℕ) (es : List MailEntry) → IsProp (IsLegalMailFrom n es)
mail_prop n [] = Unit-prop
mail_prop n (e ∷ es) = ×_prop (found_prop n e.change) (mail_prop (bits_after n e.change) es)

-- ---- a pass

some_of : (o : Option World) → is_there o ≡ true → o ≡ Some (world_or_start o)
some_of (Some w) e = refl
some_of None e = absurd (cc)

module _ {g : Ghosts World Step Reply} where
  pub first_is : (p : Pass World Step Reply g) → pass_first p ≡ Some (view_of p).opened
  first_is p = some_of (pass_first p) p.resting.first

  pub kept_view : (p : Pass World Step Reply g) → ∥ IsSoundSeat step proper p.seat.me ∥₁ → IsReached (view_of p).opened → IsKept (view_of p)
  kept_view p sound reached = record {
    opened = reached;
    legal = ∥∥₁_elim sound (legal_prop (view_of p).opened (view_of p).seen) (λ h. h.legal (view_of p).opened (first_is p));
    each_proper = ∥∥₁_elim sound (proper_prop (view_of p).seen) (λ h. h.each_proper);
    signs = p.resting.numbered;
    mail = λ slot. ∥∥₁_elim sound (mail_prop 0 (mail_at (view_of p).mail slot)) (λ h. h.mail slot);
  }

  -- u is what is known of the pass p, and q is a pass of the same board afterwards
  module _ (p q : Pass World Step Reply g) (u : PassView) (is : view_of p ≡ u) where
    pub kept_after : pass_first q ≡ pass_first p → ∥ IsSoundSeat step proper q.seat.me ∥₁ → IsReached u.opened → IsKept (view_of q)
    kept_after first sound reached =
        kept_view q sound (subst IsReached (sym (ap world_or_start first ∙ ap (λ (v : PassView). v.opened) is)) reached)

    -- where the pass o was joined into p
    pub joined_after : (o : Pass World Step Reply g) (v : PassView) → view_of o ≡ v → q.seat.table_id ≡ p.seat.table_id → pass_number q ≡ pass_number p → pass_first q ≡ pass_first p →
        pass_numbers q ≡ pass_numbers p ++ pass_numbers o → pass_seen q ≡ longer (pass_seen p) (pass_seen o) → pass_mail q ≡ longer_each (pass_mail p) (pass_mail o) →
        HasPart q p × HasPart q o → IsJoinedPass u v (view_of q)
    joined_after o v that board number first numbers seen mail parts =
        subst (λ (a : PassView). IsJoinedPass a v (view_of q)) is
        (subst (λ (b : PassView). IsJoinedPass (view_of p) b (view_of q)) that (record {
          board = ap board_name board;
          number = number;
          opened = ap world_or_start first;
          numbers = numbers;
          seen = seen;
          mail = mail;
          this = record { seen = parts.0.0; mail = parts.0.1 };
          that = record { seen = parts.1.0; mail = parts.1.1 };
        }))
