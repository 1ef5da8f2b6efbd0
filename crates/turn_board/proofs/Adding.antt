-- An entry keeps the rule.
use Rattle.std.proofs.Common.{◌≡◌, ℕ, ◌+◌, ◌%◌, ◌<◌, Bool, true, false, List, [], ◌∷◌, ◌++◌, length, map, set, get_or, refl, sym, ap, ◌∙◌, subst, inr, arith, append-nil, append_assoc, length-append, Option, Some}
use Rattle.std.proofs.Math.Nat.{mod-eq_of_lt}
use mathlib.Core.Option.{some, some-injective, some-ne-none}
use mathlib.Core.Option as maybe
use Rattle.atomic_table.specs.Table.{State, step, keeps, Allows}
use Rattle.atomic_table.proofs.Lists.{set_here}
use Rattle.push_model.specs.declared.entry.Entry.{Entry}
use Rattle.push_model.specs.Histories.{world_after}
use Rattle.push_model.specs.MailWords.{out}
use Rattle.turn_board.specs.declared.view.Home.{Home}
use Rattle.turn_board.specs.declared.view.Place.{Place}
use Rattle.turn_board.specs.declared.view.Place.TheVariants.{Free, Waits, Serves}
use Rattle.turn_board.specs.declared.view.View.{View}
use Rattle.turn_board.specs.Numbers.{word_size, has}
use Rattle.turn_board.specs.Views.{own_of, tickets, with_entries, ticket_of, all_numbers, tickets_out, number_count}
use Rattle.turn_board.specs.Rule.{Stands, Fits, MailFits, AllSigned, IsBoard}
use Rattle.turn_board.specs.Plays.{SeatState, AddsEntries}
use Rattle.turn_board.proofs.Rows.{is_false, none_in, total_set, each_set, apart_within, has_first, has_second, has_later, own_of-append, own_of-none, own_of-one}
use Rattle.turn_board.proofs.Queue.{has_self, at_lt, one_serves}
use Rattle.turn_board.proofs.Longer.{IsLegal-snoc}

module _ {W S R : Type 0} (run : W → S → W × R) (proper : ℕ → S → Bool) (origin : W) where
  abbrev V : Type 0
  V = View W S R

  abbrev St : Type 0
  St = State (Option (Home W)) V

  abbrev Es : Type 0
  Es = List (Entry S R)

  abbrev Rule : St → Type 0
  Rule = IsBoard run proper origin

  AllSigned-snoc : (seats : ℕ) (es : Es) (e : Entry S R) → AllSigned proper seats es → proper e.by e.step ≡ true → e.by < seats → AllSigned proper seats (es ++ e ∷ [])
  AllSigned-snoc seats [] e h p l = (p, l, tt)
  AllSigned-snoc seats (x ∷ xs) e h p l = (h.0, h.1, AllSigned-snoc seats xs e h.2 p l)

  -- another seat, where the history has one more entry, which isn't its own
  stands_adds : (t n : ℕ) (h : Es) (e : Entry S R) (v : V) (st : Place) → ((k : ℕ) → st ≡ Serves k → k ≡ n → ⊥) → Stands t n h v st → Stands t n (h ++ e ∷ []) v st
  stands_adds t n h e v Free not s = tt
  stands_adds t n h e v (Waits k) not s = s
  stands_adds t n h e v (Serves k) not s = absurd (not k refl s.0)

  fits_adds : (t n seats : ℕ) (h : Es) (e : Entry S R) (v : V) → ((k : ℕ) → v.place ≡ Serves k → k ≡ n → ⊥) → has (all_numbers v) e.by ≡ false → Fits origin t n seats h v → Fits origin t n seats (h ++ e ∷ []) v
  fits_adds t n seats h e v not other f = record {
    first = f.first;
    rest = f.rest ++ e ∷ [];
    begins = ap (λ (l : Es). l ++ e ∷ []) f.begins ∙ append_assoc v.seen f.rest (e ∷ []);
    foreign = own_of-append v.numbers f.rest (e ∷ []) ∙ (λ i. f.foreign i ++ own_of-one v.numbers e (has_second v.spare v.numbers e.by other) i);
    stands = stands_adds t n h e v v.place not f.stands;
    numbered = f.numbered;
    drawn = f.drawn;
    distinct = f.distinct;
    unused = own_of-append v.spare h (e ∷ []) ∙ (λ i. f.unused i ++ own_of-one v.spare e (has_first v.spare v.numbers e.by other) i);
    parts = f.parts;
    alone = f.alone;
  }

  pub adds : (slots id k : ℕ) (me : SeatState W S R) (w₀ : W) (e : Entry S R) → me.0.place ≡ Serves k → me.0.first ≡ Some w₀ → e.reply ≡ (run (world_after run w₀ me.0.known) e.step).1 → proper e.by e.step ≡ true
      → has me.0.numbers e.by ≡ true → length me.0.spare ≡ 0 → length me.0.known + 1 < word_size → Allows Rule slots id me 2 (λ n. (n + 1) % word_size) (AddsEntries (e ∷ []) (step slots 2 1 0 maybe.none) me)
  adds slots id k me w₀ e is first reply fine own no_spare room s r wide at small =
      let bare : me.0.spare ≡ [] = none_in me.0.spare no_spare in
      let among : has (all_numbers me.0) e.by ≡ true = has_later me.0.spare me.0.numbers e.by own in
      let f = r.each id me.0 at in
      let stands = subst (Stands r.ticket r.serving r.history me.0) is f.stands in
      let mine : k ≡ r.serving = stands.0 in
      let all : me.0.known ≡ r.history = stands.2 in
      let w : V = with_entries me.0 (e ∷ []) in
      let h' : Es = r.history ++ e ∷ [] in
      let moved = total_set tickets_out s.views id me.0 w at in
      let counted = total_set number_count s.views id me.0 w at in
      let queue = r.queue in
      let count = r.count in
      let len : length h' ≡ length r.history + 1 = length-append r.history (e ∷ []) in
      let len' : length me.0.known ≡ length r.history = ap length all in
      let fits : (length r.history + 1) % word_size ≡ length h' = mod-eq_of_lt (omega arith) ∙ sym len in (
        w,
        keeps,
        tt,
        record {
          history = h';
          ticket = r.ticket;
          serving = r.serving;
          seats = r.seats;
          parked = r.parked;
          words = ap (λ (ws : List ℕ). set ws 2 ((get_or ws 2 0 + 1) % word_size)) r.words ∙ ap (λ (x : ℕ). r.ticket % word_size ∷ r.serving % word_size ∷ x ∷ r.seats ∷ r.parked ∷ map out r.mails) fits;
          legal = IsLegal-snoc run origin r.history e r.legal (reply ∙ (λ i. (run (world_after run (f.first w₀ first i) (all i)) e.step).1));
          signed = AllSigned-snoc r.seats r.history e r.signed fine (f.drawn e.by among);
          queue = omega arith;
          count = omega arith;
          few = r.few;
          mails = r.mails;
          mail_wide = r.mail_wide;
          mail_legal = r.mail_legal;
          mail_signed = r.mail_signed;
          each_mail = each_set (MailFits r.mails) s.views id w (λ j u _ e. r.each_mail j u e) (r.each_mail id me.0 at);
          tickets_apart = apart_within ticket_of s.views id me.0 w at r.tickets_apart (λ x h. h);
          numbers_apart = apart_within all_numbers s.views id me.0 w at r.numbers_apart (λ x h. h);
          each = each_set (Fits origin r.ticket r.serving r.seats h') s.views id w
              (λ j v other there. fits_adds r.ticket r.serving r.seats r.history e v
              (λ x serves same. other (one_serves run proper origin s r id k me.0 at is j x v there (subst (λ (st : Place). has (tickets st) k ≡ true) (sym serves) (subst (λ (z : ℕ). has (z ∷ []) k ≡ true) (mine ∙ sym same) (has_self k)))))
              (is_false (has (all_numbers v) e.by) (λ both. other (r.numbers_apart j id v me.0 e.by there at both among)))
              (r.each j v there))
              record { first = f.first; rest = []; begins = ap (λ (l : Es). l ++ e ∷ []) (sym all) ∙ sym (append-nil (me.0.known ++ e ∷ [])); foreign = refl; stands = subst (Stands r.ticket r.serving h' w) (sym is) (mine, stands.1, ap (λ (l : Es). l ++ e ∷ []) all); numbered = f.numbered; drawn = f.drawn; unused = ap (λ (l : List ℕ). own_of l h') bare ∙ own_of-none h'; distinct = f.distinct; parts = tt; alone = f.alone };
          homed = inr (id, k, w, set_here s.views id w (at_lt s.views id me.0 at), is);
          out = λ _ _ _ _ _. r.out id k me.0 at is;
        },
        refl,
      )
