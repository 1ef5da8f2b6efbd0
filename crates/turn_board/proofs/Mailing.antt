-- A change of a mail list keeps the rule.
use Rattle.std.specs.Prelude.{bit_or}
use Rattle.std.proofs.Common.{◌≡◌, ◌≢◌, ℕ, zero, suc, ◌+◌, ◌-◌, ◌%◌, ◌<◌, Bool, true, false, List, [], ◌∷◌, ◌++◌, length, map, set, get_or, refl, sym, ap, ◌∙◌, subst, arith, append-nil, append_assoc, length-set, get_or-set_same, get_or-set_other, Option}
use mathlib.Core.Option.{some, some-injective, some-ne-none}
use mathlib.Core.Option as maybe
use mathlib.Core.Logic.{dite}
use native.Mathlib.Decide.{ℕ_discrete}
use lib.ListN.{get_elem?}
use lib.Seq.{map-set}
use Rattle.atomic_table.specs.Table.{State, Step, step, keeps, Allows}
use Rattle.push_model.specs.declared.entry.Entry.{Entry}
use Rattle.push_model.specs.declared.mail.MailChange.{MailChange}
use Rattle.push_model.specs.declared.mail.MailEntry.{MailEntry}
use Rattle.push_model.specs.declared.mail.MailChange.TheVariants.{Post, Taken}
use Rattle.push_model.specs.MailWords.{mail_entry, out, IsFound, IsLegalMail}
use Rattle.turn_board.specs.declared.view.Home.{Home}
use Rattle.turn_board.specs.declared.view.Place.TheVariants.{Free}
use Rattle.turn_board.specs.declared.view.View.{View}
use Rattle.turn_board.specs.Numbers.{word_size, has, own_by}
use Rattle.push_model.specs.DeskViews.{mail_by}
use Rattle.turn_board.specs.Views.{mail_at, put_list, with_mail, ticket_of, all_numbers, tickets_out, number_count}
use Rattle.turn_board.specs.Rule.{Fits, MailFits, AllBelow, IsBoard}
use Rattle.turn_board.specs.Plays.{SeatState, HasWritten, Writes}
use Rattle.turn_board.proofs.Rows.{is_false, none_in, total_set, each_set, apart_within, has_first, has_second, has_later, own_by-append, own_by-none, own_by-one}
use Rattle.turn_board.proofs.Queue.{serves_not_free, homed_else, out_else}
use Rattle.turn_board.proofs.Mails.{out_from-more, legal-more}
use Rattle.turn_board.specs.Passes.{SlotEndsWith}

at_put_same : {A : Type 0} → (xs : List (List A)) (k : ℕ) (l : List A) → get_or (put_list xs k l) k [] ≡ l
at_put_same [] zero l = refl
at_put_same [] (suc k) l = at_put_same [] k l
at_put_same (x ∷ xs) zero l = refl
at_put_same (x ∷ xs) (suc k) l = at_put_same xs k l

at_put_other : {A : Type 0} → (xs : List (List A)) (k j : ℕ) (l : List A) → j ≢ k → get_or (put_list xs k l) j [] ≡ get_or xs j []
at_put_other [] zero zero l n = absurd (n refl)
at_put_other [] zero (suc j) l n = refl
at_put_other [] (suc k) zero l n = refl
at_put_other [] (suc k) (suc j) l n = at_put_other [] k j l (λ e. n (ap suc e))
at_put_other (x ∷ xs) zero zero l n = absurd (n refl)
at_put_other (x ∷ xs) zero (suc j) l n = refl
at_put_other (x ∷ xs) (suc k) zero l n = refl
at_put_other (x ∷ xs) (suc k) (suc j) l n = at_put_other xs k j l (λ e. n (ap suc e))

map_at : (ls : List (List MailEntry)) (k : ℕ) → get_or (map out ls) k 0 ≡ out (get_or ls k [])
map_at [] k = refl
map_at (x ∷ xs) zero = refl
map_at (x ∷ xs) (suc k) = map_at xs k

below-snoc : (n : ℕ) (ls : List MailEntry) (l : MailEntry) → AllBelow n ls → mail_by l < n → AllBelow n (ls ++ l ∷ [])
below-snoc n [] l h b = (b, tt)
below-snoc n (x ∷ xs) l h b = (h.0, below-snoc n xs l h.1 b)

module _ {W S R : Type 0} (run : W → S → W × R) (proper : ℕ → S → Bool) (origin : W) where
  abbrev V : Type 0
  V = View W S R

  abbrev St : Type 0
  St = State (Option (Home W)) V

  abbrev Es : Type 0
  Es = List (Entry S R)

  abbrev Rule : St → Type 0
  Rule = IsBoard run proper origin

  pub writes : (slots id i k : ℕ) (me : SeatState W S R) (by : ℕ) (f : ℕ → ℕ) (written : ℕ → MailEntry) → me.0.place ≡ Free → length me.0.spare ≡ 0 → has me.0.numbers by ≡ true → ((n : ℕ) → mail_by (written n) ≡ by) → i ≡ k + 5 → k < 8
      → ((ls : List MailEntry) → f (out ls) ≡ out (ls ++ written (out ls) ∷ [])) → ((ls : List MailEntry) → IsLegalMail ls → IsLegalMail (ls ++ written (out ls) ∷ []))
      → (a b : ℕ) → Allows Rule slots id me i f (Writes written (step slots i a b maybe.none) me)
  writes slots id i k me by f written free no_spare own signs is low fits lawful a b s r wide at small =
      let v : V = me.0 in
      let g = r.each id v at in
      let mv = (r.each_mail id v at).0 k in
      let rest : List MailEntry = mv.0 in
      let full : List MailEntry = mail_at r.mails k in
      let up : i ≡ suc (suc (suc (suc (suc k)))) = omega arith in
      let back : i - 5 ≡ k = omega arith in
      let found : ℕ = get_or s.words i 0 in
      let found_is : found ≡ out full = (λ j. get_or (r.words j) (up j) 0) ∙ map_at r.mails k in
      let l : MailEntry = written found in
      let new : List MailEntry = full ++ l ∷ [] in
      let inside : k < length r.mails = let m = r.mail_wide in omega arith in
      let mails' : List (List MailEntry) = set r.mails k new in
      let same : mail_at mails' k ≡ new = get_or-set_same r.mails k new [] inside in
      let other : (j : ℕ) → j ≢ k → mail_at mails' j ≡ mail_at r.mails j = λ j n. get_or-set_other r.mails k j new [] n in
      let value : f found ≡ out new = ap f found_is ∙ fits full ∙ ap (λ (x : ℕ). out (full ++ written x ∷ [])) (sym found_is) in
      let legal : IsLegalMail new = subst (λ (x : ℕ). IsLegalMail (full ++ written x ∷ [])) (sym found_is) (lawful full (r.mail_legal k)) in
      let among : has (all_numbers v) by ≡ true = has_later v.spare v.numbers by own in
      let w : V = with_mail v k new in
      let bare : v.spare ≡ [] = none_in v.spare no_spare in
      let moved = total_set tickets_out s.views id v w at in
      let counted = total_set number_count s.views id v w at in
      let queue = r.queue in
      let count = r.count in
      let at_each : (P : List MailEntry → Type 0) → P new → ((j : ℕ) → j ≢ k → P (mail_at r.mails j)) → (j : ℕ) → P (mail_at mails' j) = λ P here there j. dite (ℕ_discrete j k)
      (λ e. subst (λ (z : ℕ). P (mail_at mails' z)) (sym e) (subst P (sym same) here))
      (λ n. subst P (sym (other j n)) (there j n)) in
      let theirs : (j : ℕ) (u : V) → j ≢ id → get_elem? s.views j ≡ some u → MailFits mails' u = λ j u elsewhere e.
      let m = r.each_mail j u e in
      let not_all : has (all_numbers u) (mail_by l) ≡ false = is_false (has (all_numbers u) (mail_by l)) (λ t. elsewhere (r.numbers_apart j id u v by e at (subst (λ (z : ℕ). has (all_numbers u) z ≡ true) (signs found) t) among)) in (
        (λ x. dite (ℕ_discrete x k)
            (λ e. subst (λ (z : ℕ). (rest : List MailEntry) × (mail_at mails' z ≡ mail_at u.mail z ++ rest) × (own_by mail_by u.numbers rest ≡ [])) (sym e) (
              (m.0 k).0 ++ l ∷ [],
              same ∙ ap (λ (ls : List MailEntry). ls ++ l ∷ []) (m.0 k).1 ∙ append_assoc (mail_at u.mail k) (m.0 k).0 (l ∷ []),
              own_by-append mail_by u.numbers (m.0 k).0 (l ∷ []) ∙ (λ j. (m.0 k).2 j ++ own_by-one mail_by u.numbers l (has_second u.spare u.numbers (mail_by l) not_all) j),
            ))
            (λ n. ((m.0 x).0, other x n ∙ (m.0 x).1, (m.0 x).2))),
        at_each (λ ls. own_by mail_by u.spare ls ≡ []) (own_by-append mail_by u.spare full (l ∷ []) ∙ (λ j. m.1 k j ++ own_by-one mail_by u.spare l (has_first u.spare u.numbers (mail_by l) not_all) j)) (λ x n. m.1 x),
      ) in
      let mine : MailFits mails' w =
      let m = r.each_mail id v at in (
        (λ x. dite (ℕ_discrete x k)
            (λ e. subst (λ (z : ℕ). (rest : List MailEntry) × (mail_at mails' z ≡ mail_at w.mail z ++ rest) × (own_by mail_by v.numbers rest ≡ [])) (sym e)
            ([], same ∙ sym (at_put_same v.mail k new) ∙ sym (append-nil (mail_at w.mail k)), refl))
            (λ n. ((m.0 x).0, other x n ∙ (m.0 x).1 ∙ ap (λ (ls : List MailEntry). ls ++ (m.0 x).0) (sym (at_put_other v.mail k x new n)), (m.0 x).2))),
        at_each (λ ls. own_by mail_by v.spare ls ≡ []) (ap (λ (ns : List ℕ). own_by mail_by ns new) bare ∙ own_by-none mail_by new) (λ x n. m.1 x),
      ) in
      let seen : full ≡ mail_at v.mail k ++ rest = mv.1 in
      let m₁ : SeatState W S R = (w, me.1) in
      let with_pair : ℕ → List MailEntry → SeatState W S R = λ z ls. (with_mail v z (ls ++ l ∷ []), me.1) in
      let with_it : ℕ → List MailEntry → SeatState W S R = λ z between. with_pair z (mail_at v.mail z ++ between) in (
        w,
        keeps,
        tt,
        record {
          history = r.history;
          ticket = r.ticket;
          serving = r.serving;
          seats = r.seats;
          parked = r.parked;
          mails = mails';
          words = (λ j. set (r.words j) (up j) (f found)) ∙ ap (λ (xs : List ℕ). r.ticket % word_size ∷ r.serving % word_size ∷ length r.history ∷ r.seats ∷ r.parked ∷ xs) (ap (set (map out r.mails) k) value ∙ sym (map-set out r.mails k new));
          legal = r.legal;
          signed = r.signed;
          queue = omega arith;
          count = omega arith;
          few = r.few;
          tickets_apart = apart_within ticket_of s.views id v w at r.tickets_apart (λ k h. h);
          numbers_apart = apart_within all_numbers s.views id v w at r.numbers_apart (λ k h. h);
          each = each_set (Fits origin r.ticket r.serving r.seats r.history) s.views id w (λ j u _ e. r.each j u e)
              record { first = g.first; rest = g.rest; begins = g.begins; foreign = g.foreign; stands = g.stands; numbered = g.numbered; drawn = g.drawn; unused = g.unused; distinct = g.distinct; parts = tt; alone = g.alone };
          homed = homed_else run proper origin r.history s.homes s.views id v w at (λ k e. serves_not_free k (sym free ∙ e)) r.homed;
          out = out_else run proper origin s r id w (λ k e. serves_not_free k (sym free ∙ e));
          mail_wide = length-set r.mails k new ∙ r.mail_wide;
          mail_legal = at_each IsLegalMail legal (λ j _. r.mail_legal j);
          mail_signed = at_each (AllBelow r.seats) (below-snoc r.seats full l (r.mail_signed k) (subst (λ (z : ℕ). z < r.seats) (sym (signs found)) (g.drawn by among))) (λ j _. r.mail_signed j);
          each_mail = each_set (MailFits mails') s.views id w theirs mine;
        },
        subst (λ (z : ℕ). HasWritten z l found me m₁) (sym back)
            (rest, mv.2, ap (λ (ls : List MailEntry). with_pair k ls) seen, found_is ∙ ap out seen, subst (λ (ls : List MailEntry). IsLegalMail (ls ++ l ∷ [])) seen legal),
      )

  pub posts : (slots id i k : ℕ) (me : SeatState W S R) (by bits : ℕ) (written : ℕ → MailEntry) → me.0.place ≡ Free → length me.0.spare ≡ 0 → has me.0.numbers by ≡ true → ((n : ℕ) → written n ≡ mail_entry by (Post bits)) → i ≡ k + 5 → k < 8
      → Allows Rule slots id me i (λ n. bit_or n bits) (Writes written (step slots i bits 0 maybe.none) me)
  posts slots id i k me by bits written free no_spare own is place low = writes slots id i k me by (λ n. bit_or n bits) written free no_spare own (λ n. ap mail_by (is n)) place low
      (λ ls. sym (out_from-more 0 ls by (Post bits)) ∙ ap (λ (l : MailEntry). out (ls ++ l ∷ [])) (sym (is (out ls))))
      (λ ls h. subst (λ (l : MailEntry). IsLegalMail (ls ++ l ∷ [])) (sym (is (out ls))) (legal-more 0 ls by (Post bits) h tt)) bits 0

  pub takes_all : (slots id i k : ℕ) (me : SeatState W S R) (by : ℕ) (written : ℕ → MailEntry) → me.0.place ≡ Free → length me.0.spare ≡ 0 → has me.0.numbers by ≡ true → ((n : ℕ) → written n ≡ mail_entry by (Taken n)) → i ≡ k + 5 → k < 8
      → Allows Rule slots id me i (λ _. 0) (Writes written (step slots i 0 0 maybe.none) me)
  takes_all slots id i k me by written free no_spare own is place low = writes slots id i k me by (λ _. 0) written free no_spare own (λ n. ap mail_by (is n)) place low
      (λ ls. sym (out_from-more 0 ls by (Taken (out ls))) ∙ ap (λ (l : MailEntry). out (ls ++ l ∷ [])) (sym (is (out ls))))
      (λ ls h. subst (λ (l : MailEntry). IsLegalMail (ls ++ l ∷ [])) (sym (is (out ls))) (legal-more 0 ls by (Taken (out ls)) h refl)) 0 0

  pub wrote : (k slot found : ℕ) (me m : SeatState W S R) (written : ℕ → MailEntry) (l : MailEntry) (st : Step (Option (Home W))) → Writes written st me found m → st.word ≡ k + 5 → k ≡ slot → written found ≡ l → HasWritten slot l found me m
  wrote k slot found me m written l st h word same is = let e : st.word - 5 ≡ slot = omega arith in subst (λ (z : ℕ × MailEntry). HasWritten z.0 z.1 found me m) (λ i. (e i, is i)) h

pub posted : {W S R : Type 0} → (slot found number : ℕ) (c : MailChange) (me m : SeatState W S R) → HasWritten slot (mail_entry number c) found me m → ((n : ℕ) → found ≡ n → IsFound n c) → SlotEndsWith slot c number me.0.numbers me.0.mail m.0.mail
posted {W} {S} {R} slot found number c me m h taken =
    let ls : List MailEntry = (mail_at me.0.mail slot ++ h.0) ++ mail_entry number c ∷ [] in
    let mail : mail_at m.0.mail slot ≡ ls = ap (λ (x : SeatState W S R). mail_at x.0.mail slot) h.2 ∙ at_put_same me.0.mail slot ls in record {
      between = h.0;
      foreign = h.1;
      mail = mail;
      found = taken (out (mail_at me.0.mail slot ++ h.0)) h.3;
      legal = subst IsLegalMail (sym mail) h.4;
      others = λ k n. ap (λ (x : SeatState W S R). mail_at x.0.mail k) h.2 ∙ at_put_other me.0.mail slot k ls n;
    }
