-- Joining two seats keeps the rule.
use Rattle.std.proofs.Common.{◌≡◌, ◌≢◌, ℕ, ◌+◌, Bool, true, List, [], ◌∷◌, length, set, refl, sym, ap, ◌∙◌, subst, ⊎_elim, arith, length-append, Option}
use mathlib.Core.Option.{some, some-injective, some-ne-none}
use mathlib.Core.Option as maybe
use lib.ListN.{get_elem?}
use Rattle.atomic_table.specs.Table.{State, Joins}
use Rattle.atomic_table.proofs.Lists.{set_else, at_set}
use Rattle.push_model.specs.declared.entry.Entry.{Entry}
use Rattle.push_model.specs.declared.mail.MailEntry.{MailEntry}
use Rattle.turn_board.specs.declared.view.Home.{Home}
use Rattle.turn_board.specs.declared.view.Place.{Place}
use Rattle.turn_board.specs.declared.view.Place.TheVariants.{Free, Serves}
use Rattle.turn_board.specs.declared.view.View.{View}
use Rattle.turn_board.specs.Numbers.{has}
use Rattle.push_model.specs.DeskViews.{mail_by}
use Rattle.turn_board.specs.Views.{entry_by, mail_at, longer_each, tickets, spent_view, joined, ticket_of, all_numbers, tickets_out, number_count}
use Rattle.turn_board.specs.Rule.{Stands, Fits, MailFits, IsBoard}
use Rattle.turn_board.proofs.Rows.{none_true, total_set, each_set, apart_set, apart_within, set_swap, has_either, has_later, own_by-none, own_of-none}
use Rattle.turn_board.proofs.Queue.{serves_not_free, homed_else}
use Rattle.turn_board.proofs.Fronts.{Both, both_seen, at_longer_each}
use Rattle.turn_board.proofs.Distincts.{distinct_append, distinct_back}

module _ {W S R : Type 0} (run : W → S → W × R) (proper : ℕ → S → Bool) (origin : W) where
  abbrev V : Type 0
  V = View W S R

  abbrev St : Type 0
  St = State (Option (Home W)) V

  abbrev Es : Type 0
  Es = List (Entry S R)

  abbrev Rule : St → Type 0
  Rule = IsBoard run proper origin

  -- what the mail of the two is to the mail of both
  mail_both : (mails : List (List MailEntry)) (v w : V) → MailFits mails v → MailFits mails w → (k : ℕ) → Both mail_by v.numbers w.numbers (mail_at mails k) (mail_at v.mail k) (mail_at w.mail k) (mail_at (longer_each v.mail w.mail) k)
  mail_both mails v w m n k = subst (λ (l : List MailEntry). Both mail_by v.numbers w.numbers (mail_at mails k) (mail_at v.mail k) (mail_at w.mail k) l) (sym (at_longer_each v.mail w.mail k))
      (both_seen mail_by v.numbers w.numbers (mail_at mails k) (mail_at v.mail k) (mail_at w.mail k) (m.0 k) (n.0 k))

  fits_joined : (t n seats : ℕ) (h : Es) (mails : List (List MailEntry)) (v w : V) → v.place ≡ Free → Fits origin t n seats h v → Fits origin t n seats h w → MailFits mails v → MailFits mails w → ((k : ℕ) → has v.numbers k ≡ true → has w.numbers k ≡ true → ⊥)
      → Fits origin t n seats h (joined v w)
  fits_joined t n seats h mails v w free f g mf mg apart =
      let out_v : tickets_out v ≡ 0 = ap (λ (st : Place). length (tickets st)) free in
      let b = both_seen entry_by v.numbers w.numbers h v.seen w.seen (f.rest, f.begins, f.foreign) (g.rest, g.begins, g.foreign) in
      let mail = mail_both mails v w mf mg in
      record {
        first = f.first;
        rest = b.whole.0;
        begins = b.whole.1;
        foreign = b.whole.2;
        stands = subst (Stands t n h (joined v w)) (sym free) tt;
        numbered = omega arith;
        drawn = λ k e. ⊎_elim (λ a. f.drawn k (has_later v.spare v.numbers k a)) (λ a. g.drawn k (has_later w.spare w.numbers k a)) (has_either v.numbers w.numbers k e);
        distinct = distinct_append v.numbers w.numbers (distinct_back v.spare v.numbers f.distinct) (distinct_back w.spare w.numbers g.distinct) apart;
        unused = own_of-none h;
        parts = ((b.first, λ k. (mail k).first), ((b.second, λ k. (mail k).second), tt));
        alone = λ l _. absurd (omega arith);
      }

  fits_spent : (t n seats : ℕ) (h : Es) → Fits origin t n seats h spent_view
  fits_spent t n seats h = record { first = λ w e. absurd (cc); rest = h; begins = refl; foreign = own_of-none h; stands = tt; numbered = omega arith; drawn = λ k e. absurd (none_true e); distinct = tt; unused = own_of-none h; parts = tt; alone = λ l _. absurd (omega arith) }

  pub joins : (id : ℕ) (v : V) (other : ℕ) (w : V) → v.place ≡ Free → w.place ≡ Free → length v.spare ≡ 0 → length w.spare ≡ 0 → Joins Rule id v other w (joined v w) spent_view
  joins id v other w free free' bare bare' s r at apart there =
      let both : V = joined v w in
      let there' : get_elem? s.views other ≡ some w = sym (set_else s.views id other both apart) ∙ there in
      let vs : List V = set s.views other spent_view in
      let at' : get_elem? vs id ≡ some v = set_else s.views other id spent_view (λ e. apart (sym e)) ∙ at in
      let moved = total_set tickets_out s.views other w spent_view there' in
      let moved' = total_set tickets_out vs id v both at' in
      let counted = total_set number_count s.views other w spent_view there' in
      let counted' = total_set number_count vs id v both at' in
      let out_v : tickets_out v ≡ 0 = ap (λ (st : Place). length (tickets st)) free in
      let out_w : tickets_out w ≡ 0 = ap (λ (st : Place). length (tickets st)) free' in
      let some_v : number_count v ≡ length v.spare + length v.numbers = length-append v.spare v.numbers in
      let some_w : number_count w ≡ length w.spare + length w.numbers = length-append w.spare w.numbers in
      let some_both : number_count both ≡ length v.numbers + length w.numbers = length-append v.numbers w.numbers in
      let queue = r.queue in
      let count = r.count in
      let f = r.each id v at in
      let g = r.each other w there' in
      let mf = r.each_mail id v at in
      let mg = r.each_mail other w there' in
      let mail_joined : MailFits r.mails both = ((λ k. (mail_both r.mails v w mf mg k).whole), λ k. own_by-none mail_by (mail_at r.mails k)) in
      let no_number : (k : ℕ) → has v.numbers k ≡ true → has w.numbers k ≡ true → ⊥ = λ k a b. apart (r.numbers_apart other id w v k there' at (has_later w.spare w.numbers k b) (has_later v.spare v.numbers k a)) in
      let serving = λ (k : ℕ) (e : v.place ≡ Serves k). serves_not_free k (sym free ∙ e) in
      let serving' = λ (k : ℕ) (e : w.place ≡ Serves k). serves_not_free k (sym free' ∙ e) in
      let done : Rule record { words = s.words; homes = s.homes; views = set vs id both } = record {
        history = r.history;
        ticket = r.ticket;
        serving = r.serving;
        seats = r.seats;
        parked = r.parked;
        words = r.words;
        legal = r.legal;
        signed = r.signed;
        queue = omega arith;
        count = omega arith;
        few = r.few;
        mails = r.mails;
        mail_wide = r.mail_wide;
        mail_legal = r.mail_legal;
        mail_signed = r.mail_signed;
        each_mail = each_set (MailFits r.mails) vs id both (λ j u _ e. each_set (MailFits r.mails) s.views other spent_view (λ i x _ e'. r.each_mail i x e') ((λ k. (mail_at r.mails k, refl, own_by-none mail_by (mail_at r.mails k))), λ k. own_by-none mail_by (mail_at r.mails k)) j u e) mail_joined;
        tickets_apart = apart_within ticket_of vs id v both at' (apart_within ticket_of s.views other w spent_view there' r.tickets_apart (λ k h. absurd (none_true h))) (λ k h. h);
        numbers_apart = apart_set all_numbers vs id both (apart_within all_numbers s.views other w spent_view there' r.numbers_apart (λ k h. absurd (none_true h)))
            (λ j u k elsewhere e hu hb. ⊎_elim
            (λ (t : (j ≡ other) × (spent_view ≡ u)). none_true (subst (λ (x : V). has (all_numbers x) k ≡ true) (sym t.1) hu))
            (λ (t : (j ≢ other) × (get_elem? s.views j ≡ some u)). ⊎_elim
            (λ a. elsewhere (r.numbers_apart j id u v k t.1 at hu (has_later v.spare v.numbers k a)))
            (λ b. t.0 (r.numbers_apart j other u w k t.1 there' hu (has_later w.spare w.numbers k b)))
            (has_either v.numbers w.numbers k hb))
            (at_set s.views other j spent_view u e));
        each = each_set (Fits origin r.ticket r.serving r.seats r.history) vs id both
            (λ j u _ e. each_set (Fits origin r.ticket r.serving r.seats r.history) s.views other spent_view (λ i x _ e'. r.each i x e') (fits_spent r.ticket r.serving r.seats r.history) j u e)
            (fits_joined r.ticket r.serving r.seats r.history r.mails v w free f g mf mg no_number);
        homed = homed_else run proper origin r.history s.homes vs id v both at' serving (homed_else run proper origin r.history s.homes s.views other w spent_view there' serving' r.homed);
        out = λ j k u e is. each_set (λ (x : V). x.place ≡ Serves k → s.homes ≡ maybe.none ∷ []) vs id both
            (λ i x _ e'. each_set (λ (y : V). y.place ≡ Serves k → s.homes ≡ maybe.none ∷ []) s.views other spent_view (λ i' y _ e''. r.out i' k y e'') (λ h. absurd (serves_not_free k h)) i x e')
            (λ h. absurd (serving k h)) j u e is;
      } in
      subst (λ (l : List V). Rule record { words = s.words; homes = s.homes; views = l }) (set_swap s.views other id spent_view both apart) done
