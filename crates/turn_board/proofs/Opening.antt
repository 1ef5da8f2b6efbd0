-- The rule holds at the start.
use Rattle.std.proofs.Common.{◌≡◌, ℕ, zero, suc, Bool, true, false, List, [], ◌∷◌, ◌++◌, map, refl, sym, ap, ◌∙◌, subst, inl, arith, Option, Some}
use mathlib.Core.Option.{some, some-injective, some-ne-none}
use lib.ListN.{get_elem?}
use Rattle.atomic_table.specs.Table.{State, opening}
use Rattle.push_model.specs.declared.entry.Entry.{Entry}
use Rattle.push_model.specs.declared.mail.MailEntry.{MailEntry}
use Rattle.push_model.specs.MailWords.{IsLegalMail}
use Rattle.turn_board.specs.declared.view.Home.{Home}
use Rattle.turn_board.specs.declared.view.Place.TheVariants.{Serves}
use Rattle.turn_board.specs.declared.view.View.{View}
use Rattle.turn_board.specs.Numbers.{has}
use Rattle.push_model.specs.DeskViews.{mail_by}
use Rattle.turn_board.specs.Views.{mail_at, opening_view, ticket_of}
use Rattle.turn_board.specs.Rule.{Fits, MailFits, AllBelow, IsBoard}
use Rattle.turn_board.proofs.Rows.{none_true, own_by-none}
use Rattle.turn_board.proofs.Queue.{one_has, serves_not_free}

module _ {W S R : Type 0} (run : W → S → W × R) (proper : ℕ → S → Bool) (origin : W) where
  abbrev V : Type 0
  V = View W S R

  abbrev St : Type 0
  St = State (Option (Home W)) V

  abbrev Es : Type 0
  Es = List (Entry S R)

  abbrev Rule : St → Type 0
  Rule = IsBoard run proper origin

  pub begins : (homes : List (Option (Home W))) (object : W) → homes ≡ Some record { object = object; entries = 0 } ∷ [] → object ≡ origin → Rule (opening (0 ∷ 0 ∷ 0 ∷ 1 ∷ 0 ∷ 0 ∷ 0 ∷ 0 ∷ 0 ∷ 0 ∷ 0 ∷ 0 ∷ 0 ∷ []) homes (opening_view origin))
  begins homes object is same =
      let h : Home W = record { object = object; entries = 0 } in
      let v : V = opening_view origin in
      record {
        history = [];
        ticket = 0;
        serving = 0;
        seats = 1;
        parked = 0;
        words = refl;
        legal = tt;
        signed = tt;
        queue = refl;
        count = refl;
        few = omega arith;
        mails = [] ∷ [] ∷ [] ∷ [] ∷ [] ∷ [] ∷ [] ∷ [] ∷ [];
        mail_wide = refl;
        mail_legal = λ k. none_mail (λ ls. IsLegalMail ls) tt k;
        mail_signed = λ k. none_mail (λ ls. AllBelow 1 ls) tt k;
        each_mail = only (MailFits ([] ∷ [] ∷ [] ∷ [] ∷ [] ∷ [] ∷ [] ∷ [] ∷ [])) ((λ k. ([], none_mail (λ ls. ls ≡ [] ++ []) refl k, refl)), (λ k. own_by-none mail_by (mail_at ([] ∷ [] ∷ [] ∷ [] ∷ [] ∷ [] ∷ [] ∷ [] ∷ []) k)));
        tickets_apart = λ i j a b k ea eb ha hb. absurd (none_true (only (λ u. has (ticket_of u) k ≡ true → false ≡ true) (λ t. t) i a ea ha));
        numbers_apart = λ i j a b k ea eb _ _. first_of_one i a ea ∙ sym (first_of_one j b eb);
        each = only (Fits origin 0 0 1 []) record { first = λ w e. sym (same_some origin w e); rest = []; begins = refl; foreign = refl; stands = tt; numbered = omega arith; drawn = λ k e. (let z : 0 ≡ k = one_has 0 k e in omega arith); unused = refl; distinct = (refl, tt); parts = tt; alone = λ l _. absurd (omega arith) };
        homed = inl (h, ap (map some) is, (same, refl));
        out = λ j k u e serves. absurd (only (λ (x : V). x.place ≡ Serves k → ⊥) (λ free. serves_not_free k free) j u e serves);
      }
    where
      only : (P : V → Type 0) → P (opening_view origin) → (j : ℕ) (u : V) → get_elem? (opening_view origin ∷ []) j ≡ some u → P u
      only P p zero u e = subst P (some-injective (opening_view origin) u e) p
      only P p (suc j) u e = absurd (some-ne-none u (sym e))

      first_of_one : (j : ℕ) (u : V) → get_elem? (opening_view origin ∷ []) j ≡ some u → j ≡ 0
      first_of_one zero u e = refl
      first_of_one (suc j) u e = absurd (some-ne-none u (sym e))

      none_mail : (P : List MailEntry → Type 0) → P [] → (k : ℕ) → P (mail_at ([] ∷ [] ∷ [] ∷ [] ∷ [] ∷ [] ∷ [] ∷ [] ∷ []) k)
      none_mail P p zero = p
      none_mail P p (suc zero) = p
      none_mail P p (suc (suc zero)) = p
      none_mail P p (suc (suc (suc zero))) = p
      none_mail P p (suc (suc (suc (suc zero)))) = p
      none_mail P p (suc (suc (suc (suc (suc zero))))) = p
      none_mail P p (suc (suc (suc (suc (suc (suc zero)))))) = p
      none_mail P p (suc (suc (suc (suc (suc (suc (suc zero))))))) = p
      none_mail P p (suc (suc (suc (suc (suc (suc (suc (suc k)))))))) = p

      same_some : (a b : W) → Some a ≡ Some b → a ≡ b
      same_some a b e = cc
