-- Cutting a seat in two keeps the rule.
use Rattle.std.proofs.Common.{◌≡◌, ◌≢◌, ℕ, ◌+◌, Bool, true, List, [], ◌∷◌, length, set, sym, ap, ◌∙◌, subst, ⊎_elim, inl, inr, arith, length-append, Option}
use mathlib.Core.Option.{some, some-injective, some-ne-none}
use mathlib.Core.Option as maybe
use lib.ListN.{get_elem?}
use Rattle.atomic_table.specs.Table.{State, Splits}
use Rattle.atomic_table.proofs.Lists.{at_longer, at_set}
use Rattle.push_model.specs.declared.entry.Entry.{Entry}
use Rattle.turn_board.specs.declared.view.Home.{Home}
use Rattle.turn_board.specs.declared.view.Place.{Place}
use Rattle.turn_board.specs.declared.view.Place.TheVariants.{Free, Serves}
use Rattle.turn_board.specs.declared.view.View.{View}
use Rattle.turn_board.specs.Numbers.{has, own_by}
use Rattle.push_model.specs.DeskViews.{mail_by}
use Rattle.turn_board.specs.Views.{entry_by, own_of, mail_at, tickets, kept_half, given_half, ticket_of, all_numbers, tickets_out, number_count}
use Rattle.turn_board.specs.Rule.{Fits, MailFits, IsBoard}
use Rattle.turn_board.proofs.Rows.{none_true, total_set, total_snoc, each_set, each_snoc, apart_within, apart_more, has_sooner, has_later, own_by-none, own_of-none}
use Rattle.turn_board.proofs.Queue.{serves_not_free, homed_else, out_else}
use Rattle.turn_board.proofs.Fronts.{own_by-back}
use Rattle.turn_board.proofs.Distincts.{distinct_front, distinct_back, distinct_apart}

module _ {W S R : Type 0} (run : W → S → W × R) (proper : ℕ → S → Bool) (origin : W) where
  abbrev V : Type 0
  V = View W S R

  abbrev St : Type 0
  St = State (Option (Home W)) V

  abbrev Es : Type 0
  Es = List (Entry S R)

  abbrev Rule : St → Type 0
  Rule = IsBoard run proper origin

  pub splits : (id : ℕ) (v : V) → v.place ≡ Free → Splits Rule id v (kept_half v) (given_half v)
  splits id v free s r at =
      let f = r.each id v at in
      let mail = r.each_mail id v at in
      let left : V = kept_half v in
      let right : V = given_half v in
      let vs : List V = set s.views id left in
      let moved = total_set tickets_out s.views id v left at in
      let counted = total_set number_count s.views id v left at in
      let moved' = total_snoc tickets_out vs right in
      let counted' = total_snoc number_count vs right in
      let before : number_count v ≡ length v.spare + length v.numbers = length-append v.spare v.numbers in
      let out_v : tickets_out v ≡ 0 = ap (λ (st : Place). length (tickets st)) free in
      let queue = r.queue in
      let count = r.count in
      let fits_left : Fits origin r.ticket r.serving r.seats r.history left = record {
        first = f.first;
        rest = f.rest;
        begins = f.begins;
        foreign = f.foreign;
        stands = f.stands;
        numbered = omega arith;
        drawn = λ k h. f.drawn k (has_later v.spare v.numbers k h);
        unused = own_of-none r.history;
        distinct = distinct_back v.spare v.numbers f.distinct;
        parts = f.parts;
        alone = λ l _. absurd (omega arith);
      } in
      let fits_right : Fits origin r.ticket r.serving r.seats r.history right = record {
        first = f.first;
        rest = f.rest;
        begins = f.begins;
        foreign = own_by-back entry_by v.spare v.seen f.rest (ap (own_of v.spare) (sym f.begins) ∙ f.unused);
        stands = tt;
        numbered = omega arith;
        drawn = λ k h. f.drawn k (has_sooner v.spare v.numbers k h);
        unused = own_of-none r.history;
        distinct = distinct_front v.spare v.numbers f.distinct;
        parts = tt;
        alone = λ l _. absurd (omega arith);
      } in
      record {
        history = r.history;
        ticket = r.ticket;
        serving = r.serving;
        seats = r.seats;
        parked = r.parked;
        words = r.words;
        legal = r.legal;
        signed = r.signed;
        queue = omega arith;
        count = omega arith;
        few = r.few;
        mails = r.mails;
        mail_wide = r.mail_wide;
        mail_legal = r.mail_legal;
        mail_signed = r.mail_signed;
        each_mail = each_snoc (MailFits r.mails) vs right (each_set (MailFits r.mails) s.views id left (λ j u _ e. r.each_mail j u e) (mail.0, λ k. own_by-none mail_by (mail_at r.mails k))) ((λ k. let m = mail.0 k in (m.0, m.1, own_by-back mail_by v.spare (mail_at v.mail k) m.0 (ap (own_by mail_by v.spare) (sym m.1) ∙ mail.1 k))), λ k. own_by-none mail_by (mail_at r.mails k));
        tickets_apart = apart_more ticket_of vs right (apart_within ticket_of s.views id v left at r.tickets_apart (λ k h. h)) (λ j u k e hu hr. none_true hr);
        numbers_apart = apart_more all_numbers vs right (apart_within all_numbers s.views id v left at r.numbers_apart (λ k h. has_later v.spare v.numbers k h))
            (λ j u k e hu hr. ⊎_elim
            (λ (t : (j ≡ id) × (left ≡ u)). distinct_apart v.spare v.numbers f.distinct k hr (subst (λ (x : V). has (all_numbers x) k ≡ true) (sym t.1) hu))
            (λ (t : (j ≢ id) × (get_elem? s.views j ≡ some u)). t.0 (r.numbers_apart j id u v k t.1 at hu (has_sooner v.spare v.numbers k hr)))
            (at_set s.views id j left u e));
        each = each_snoc (Fits origin r.ticket r.serving r.seats r.history) vs right (each_set (Fits origin r.ticket r.serving r.seats r.history) s.views id left (λ j u _ e. r.each j u e) fits_left) fits_right;
        homed = ⊎_elim inl
            (λ (t : (j k : ℕ) × (u : V) × (get_elem? vs j ≡ some u) × (u.place ≡ Serves k)). inr (t.0, t.1, t.2, at_longer vs (right ∷ []) t.0 t.2 t.3, t.4))
            (homed_else run proper origin r.history s.homes s.views id v left at (λ k e. serves_not_free k (sym free ∙ e)) r.homed);
        out = λ j k u e serves. each_snoc (λ (x : V). x.place ≡ Serves k → s.homes ≡ maybe.none ∷ []) vs right (λ i x e' h. out_else run proper origin s r id left (λ k' e''. serves_not_free k' (sym free ∙ e'')) i k x e' h) (λ h. absurd (serves_not_free k h)) j u e serves;
      }
