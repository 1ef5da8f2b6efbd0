-- Drawing a ticket, and looking which is served, keep the rule.
use Rattle.std.specs.Prelude.{MatchBool}
use Rattle.std.proofs.Common.{◌≡◌, ◌≢◌, ℕ, ◌+◌, ◌%◌, ◌<◌, ◌≤◌, ◌==◌, Bool, true, false, cond, List, [], ◌∷◌, ◌++◌, length, map, set, get_or, refl, sym, ap, ◌∙◌, subst, ⊎_elim, inr, arith, length-append, eq-eqb, ne_eqb, Option, Some}
use Rattle.std.proofs.Math.Nat.{mod-add-mod}
use mathlib.Core.Option.{some, some-injective, some-ne-none}
use mathlib.Core.Option as maybe
use mathlib.Core.Logic.{dite}
use native.Mathlib.Decide.{ℕ_discrete}
use lib.ListN.{get_elem?}
use lib.Seq.{set-get_or}
use Rattle.atomic_table.specs.Table.{State, Act, step, keeps, takes, stepped, carried_after, Allows, Valid}
use Rattle.atomic_table.proofs.Lists.{set_here, set_again, one_turn}
use Rattle.push_model.specs.declared.entry.Entry.{Entry}
use Rattle.push_model.specs.Histories.{world_after, IsLegal, AllProper}
use Rattle.push_model.specs.MailWords.{out}
use Rattle.turn_board.specs.declared.view.Home.{Home}
use Rattle.turn_board.specs.declared.view.Place.{Place}
use Rattle.turn_board.specs.declared.view.Place.TheVariants.{Free, Waits, Serves}
use Rattle.turn_board.specs.declared.view.View.{View}
use Rattle.turn_board.specs.Numbers.{word_size, most_seats, has, total}
use Rattle.turn_board.specs.Views.{own_of, tickets, at_place, with_known, ticket_of, all_numbers, tickets_out, number_count}
use Rattle.turn_board.specs.Rule.{Stands, Fits, MailFits, IsThere, AllSigned, IsBoard}
use Rattle.turn_board.specs.Plays.{SeatState, Draws, Begins, Looks, LooksFrom}
use Rattle.turn_board.proofs.Rows.{none_true, total_set, total_le, each_set, apart_set, apart_within, has_later}
use Rattle.turn_board.proofs.Queue.{proper_of, one_has, has_self, serves_not_free, serves_not_waits, same_seat, at_lt, homed_else, out_else}
use Rattle.turn_board.proofs.Distincts.{distinct_back, all_there}

module _ {W S R : Type 0} (run : W → S → W × R) (proper : ℕ → S → Bool) (origin : W) where
  abbrev V : Type 0
  V = View W S R

  abbrev St : Type 0
  St = State (Option (Home W)) V

  abbrev Es : Type 0
  Es = List (Entry S R)

  abbrev Rule : St → Type 0
  Rule = IsBoard run proper origin

  -- fewer than 2^63 tickets are out
  out_few : (s : St) (r : Rule s) → total tickets_out s.views ≤ most_seats
  out_few s r = let few = r.few in let count = r.count in
      let h : total tickets_out s.views ≤ total number_count s.views = total_le tickets_out number_count s.views (λ j v e. (r.each j v e).numbered) in omega arith

  -- what holds of another seat, where the numbers grow
  stands_draw : (t n : ℕ) (h : Es) (v : V) (st : Place) → Stands t n h v st → Stands (t + 1) n h v st
  stands_draw t n h v Free k = tt
  stands_draw t n h v (Waits k) s = (s.0, let x = s.1 in omega arith)
  stands_draw t n h v (Serves k) s = (s.0, (let x = s.1 in omega arith), s.2)

  fits_draw : (t n seats : ℕ) (h : Es) (v : V) → Fits origin t n seats h v → Fits origin (t + 1) n seats h v
  fits_draw t n seats h v f = record { first = f.first; rest = f.rest; begins = f.begins; foreign = f.foreign; stands = stands_draw t n h v v.place f.stands; numbered = f.numbered; drawn = f.drawn; unused = f.unused; distinct = f.distinct; parts = f.parts; alone = f.alone }

  -- each ticket that is out is below the next one
  below_next : (t n : ℕ) (h : Es) (v : V) (st : Place) (k : ℕ) → Stands t n h v st → has (tickets st) k ≡ true → k < t
  below_next t n h v Free k s e = absurd (none_true e)
  below_next t n h v (Waits x) k s e = let y = s.1 in subst (λ (z : ℕ). z < t) (one_has x k e) y
  below_next t n h v (Serves x) k s e = let y = s.1 in subst (λ (z : ℕ). z < t) (one_has x k e) y

  pub draws : (slots id : ℕ) (me : SeatState W S R) → me.0.place ≡ Free → 0 < length me.0.numbers → Allows Rule slots id me 0 (λ n. (n + 1) % word_size) (Draws (step slots 0 1 0 maybe.none) me)
  draws slots id me free some_number s r wide at small =
      let t : ℕ = r.ticket in
      let more : length (all_numbers me.0) ≡ length me.0.spare + length me.0.numbers = length-append me.0.spare me.0.numbers in
      let w : V = at_place me.0 (Waits t) in
      let f = r.each id me.0 at in
      let queue : t ≡ r.serving + total tickets_out s.views = r.queue in
      let none_out : tickets_out me.0 ≡ 0 = ap (λ (st : Place). length (tickets st)) free in
      let moved = total_set tickets_out s.views id me.0 w at in
      let counted = total_set number_count s.views id me.0 w at in
      let count = r.count in (
        w,
        keeps,
        tt,
        record {
          history = r.history;
          ticket = t + 1;
          serving = r.serving;
          seats = r.seats;
          parked = r.parked;
          words = ap (λ (ws : List ℕ). set ws 0 ((get_or ws 0 0 + 1) % word_size)) r.words ∙ ap (λ (x : ℕ). x ∷ r.serving % word_size ∷ length r.history ∷ r.seats ∷ r.parked ∷ map out r.mails) (mod-add-mod t word_size 1);
          legal = r.legal;
          signed = r.signed;
          queue = omega arith;
          count = omega arith;
          few = r.few;
          mails = r.mails;
          mail_wide = r.mail_wide;
          mail_legal = r.mail_legal;
          mail_signed = r.mail_signed;
          each_mail = each_set (MailFits r.mails) s.views id w (λ j u _ e. r.each_mail j u e) (r.each_mail id me.0 at);
          tickets_apart = apart_set ticket_of s.views id w r.tickets_apart (λ j v k other e hv hw. let same = one_has t k hw in let low = below_next t r.serving r.history v v.place k (r.each j v e).stands hv in omega arith);
          numbers_apart = apart_within all_numbers s.views id me.0 w at r.numbers_apart (λ k h. h);
          each = each_set (Fits origin (t + 1) r.serving r.seats r.history) s.views id w (λ j v _ e. fits_draw t r.serving r.seats r.history v (r.each j v e))
              record { first = f.first; rest = f.rest; begins = f.begins; foreign = f.foreign; stands = (omega arith, omega arith); numbered = omega arith; drawn = f.drawn; unused = f.unused; distinct = f.distinct; parts = f.parts; alone = f.alone };
          homed = homed_else run proper origin r.history s.homes s.views id me.0 w at (λ k e. serves_not_free k (sym free ∙ e)) r.homed;
          out = out_else run proper origin s r id w (λ k e. serves_not_waits k t e);
        },
        (t, sym (ap (λ (ws : List ℕ). get_or ws 0 0) r.words), refl),
      )

  -- a step that changes nothing
  unmoved : (s : St) (r : Rule s) (i id : ℕ) (cs : List (ℕ × Option (Home W))) (v : V) → get_elem? s.views id ≡ some v → Rule (stepped s i (get_or s.words i 0) id cs v keeps)
  unmoved s r i id cs v at = subst (λ (z : List ℕ × List V). Rule record { words = z.0; homes = s.homes; views = z.1 }) (λ j. (sym (set-get_or s.words i 0) j, sym (set_again s.views id v at) j)) r

  -- entries that are all signed by numbers below n, each of which is among these, are all their own
  all_own : (n : ℕ) (ns : List ℕ) (es : Es) → AllSigned proper n es → ((k : ℕ) → k < n → has ns k ≡ true) → own_of ns es ≡ es
  all_own n ns [] h each = refl
  all_own n ns (e ∷ es) h each = (λ i. cond (each e.by h.1 i) (e ∷ own_of ns es) (own_of ns es)) ∙ ap (λ (l : Es). e ∷ l) (all_own n ns es h.2 each)

  signed_back : (n : ℕ) (xs ys : Es) → AllSigned proper n (xs ++ ys) → AllSigned proper n ys
  signed_back n [] ys h = h
  signed_back n (x ∷ xs) ys h = signed_back n xs ys h.2

  -- where no other seat has a number, the seat has seen the whole history
  whole_seen : (s : St) (r : Rule s) (id : ℕ) (v : V) → (at : get_elem? s.views id ≡ some v) → length v.spare ≡ 0 → 0 < v.counted → v.counted ≡ length v.numbers → (r.each id v at).rest ≡ []
  whole_seen s r id v at no_spare counted full =
      let f = r.each id v at in
      let before : number_count v ≡ length v.spare + length v.numbers = length-append v.spare v.numbers in
      let all : v.counted ≡ r.seats = f.alone counted (omega arith) in
      let each : (k : ℕ) → k < r.seats → has v.numbers k ≡ true = all_there v.numbers r.seats (distinct_back v.spare v.numbers f.distinct) (λ k h. f.drawn k (has_later v.spare v.numbers k h)) (omega arith) in
      sym (all_own r.seats v.numbers f.rest (signed_back r.seats v.seen f.rest (subst (AllSigned proper r.seats) f.begins r.signed)) each) ∙ f.foreign

  abbrev Look : ℕ → SeatState W S R → ℕ → SeatState W S R → Type 0
  Look k me found m = MatchBool (k % word_size == found) (Begins run proper k me m) (m ≡ me)

  -- it is not the turn of this ticket yet
  looks_early : (slots id k : ℕ) (me : SeatState W S R) → (s : St) (r : Rule s) → me.0.place ≡ Waits k → get_elem? s.views id ≡ some me.0 → k ≢ r.serving
      → (w : V) × (a : Act (Option (Home W))) × Valid s.homes me.1 a × Rule (stepped s 1 (get_or s.words 1 0) id me.1 w a) × Look k me (get_or s.words 1 0) (w, carried_after me.1 a)
  looks_early slots id k me s r is at other =
      let stands = subst (Stands r.ticket r.serving r.history me.0) is (r.each id me.0 at).stands in
      let low = stands.0 in
      let high = stands.1 in
      let few = out_few s r in
      let queue = r.queue in
      let found : get_or s.words 1 0 ≡ r.serving % word_size = ap (λ (ws : List ℕ). get_or ws 1 0) r.words in
      let differs : (k % word_size == get_or s.words 1 0) ≡ false = ne_eqb (k % word_size) (get_or s.words 1 0) (λ e. other (sym (one_turn r.serving k word_size low (omega arith) (sym (e ∙ found))))) in
      (me.0, keeps, tt, unmoved s r 1 id me.1 me.0 at, subst (λ b. MatchBool b (Begins run proper k me me) (me ≡ me)) (sym differs) refl)

  -- it is, so the object is at home
  at_home : (id k : ℕ) (v : V) → (s : St) (r : Rule s) → v.place ≡ Waits k → get_elem? s.views id ≡ some v → k ≡ r.serving → (h : Home W) × (s.homes ≡ some (Some h) ∷ []) × IsThere run origin r.history h
  at_home id k v s r is at mine = ⊎_elim (λ t. t)
      (λ (t : (j x : ℕ) × (u : V) × (get_elem? s.views j ≡ some u) × (u.place ≡ Serves x)).
      let theirs = subst (Stands r.ticket r.serving r.history t.2) t.4 (r.each t.0 t.2 t.3).stands in
      let has_theirs : has (ticket_of t.2) k ≡ true = subst (λ (st : Place). has (tickets st) k ≡ true) (sym t.4) (subst (λ (z : ℕ). has (z ∷ []) k ≡ true) (mine ∙ sym theirs.0) (has_self k)) in
      let has_mine : has (ticket_of v) k ≡ true = subst (λ (st : Place). has (tickets st) k ≡ true) (sym is) (has_self k) in
      let one = r.tickets_apart t.0 id t.2 v k t.3 at has_theirs has_mine in
      absurd (serves_not_waits t.1 k (sym is ∙ ap (λ (x : V). x.place) (sym (same_seat s.views id t.0 v t.2 at t.3 one)) ∙ t.4)))
      r.homed

  looks_turn : (slots id k : ℕ) (me : SeatState W S R) → (s : St) (r : Rule s) → me.0.place ≡ Waits k → me.1 ≡ [] → get_elem? s.views id ≡ some me.0 → k ≡ r.serving
      → (w : V) × (a : Act (Option (Home W))) × Valid s.homes me.1 a × Rule (stepped s 1 (get_or s.words 1 0) id me.1 w a) × Look k me (get_or s.words 1 0) (w, carried_after me.1 a)
  looks_turn slots id k me s r is none_out at mine =
      let f = r.each id me.0 at in
      let stands = subst (Stands r.ticket r.serving r.history me.0) is f.stands in
      let high = stands.1 in
      let home = at_home id k me.0 s r is at mine in
      let w : V = at_place (with_known me.0 (me.0.seen ++ f.rest)) (Serves k) in
      let found : get_or s.words 1 0 ≡ r.serving % word_size = ap (λ (ws : List ℕ). get_or ws 1 0) r.words in
      let same : (k % word_size == get_or s.words 1 0) ≡ true = eq-eqb (k % word_size) (get_or s.words 1 0) (ap (λ (x : ℕ). x % word_size) mine ∙ sym found) in
      let moved = total_set tickets_out s.views id me.0 w at in
      let counted = total_set number_count s.views id me.0 w at in
      let one_out : tickets_out me.0 ≡ 1 = ap (λ (st : Place). length (tickets st)) is in
      let queue = r.queue in
      let count = r.count in
      let emptied : set s.homes 0 maybe.none ≡ maybe.none ∷ [] = ap (λ (hs : List (maybe.Option (Option (Home W)))). set hs 0 maybe.none) home.1 in
      let numbered = f.numbered in (
        w,
        takes 0 (Some home.0),
        ap (λ (hs : List (maybe.Option (Option (Home W)))). get_elem? hs 0) home.1,
        record {
          history = r.history;
          ticket = r.ticket;
          serving = r.serving;
          seats = r.seats;
          parked = r.parked;
          words = set-get_or s.words 1 0 ∙ r.words;
          legal = r.legal;
          signed = r.signed;
          queue = omega arith;
          count = omega arith;
          few = r.few;
          mails = r.mails;
          mail_wide = r.mail_wide;
          mail_legal = r.mail_legal;
          mail_signed = r.mail_signed;
          each_mail = each_set (MailFits r.mails) s.views id w (λ j u _ e. r.each_mail j u e) (r.each_mail id me.0 at);
          tickets_apart = apart_within ticket_of s.views id me.0 w at r.tickets_apart (λ x h. subst (λ (st : Place). has (tickets st) x ≡ true) (sym is) h);
          numbers_apart = apart_within all_numbers s.views id me.0 w at r.numbers_apart (λ x h. h);
          each = each_set (Fits origin r.ticket r.serving r.seats r.history) s.views id w (λ j v _ e. r.each j v e)
              record { first = f.first; rest = f.rest; begins = f.begins; foreign = f.foreign; stands = (mine, high, sym f.begins); numbered = omega arith; drawn = f.drawn; unused = f.unused; distinct = f.distinct; parts = f.parts; alone = f.alone };
          homed = inr (id, k, w, set_here s.views id w (at_lt s.views id me.0 at), refl);
          out = λ _ _ _ _ _. emptied;
        },
        subst (λ b. MatchBool b (Begins run proper k me (w, (0, Some home.0) ∷ me.1)) ((w, (0, Some home.0) ∷ me.1) ≡ me)) (sym same) record {
          home = home.0;
          between = f.rest;
          foreign = f.foreign;
          after = ap (λ (cs : List (ℕ × Option (Home W))). (w, (0, Some home.0) ∷ cs)) none_out;
          legal = λ w' e. subst (λ (z : W × Es). IsLegal run z.0 z.1) (λ i. (sym (f.first w' e) i, f.begins i)) r.legal;
          world = λ w' e. home.2.0 ∙ (λ i. world_after run (sym (f.first w' e) i) (f.begins i));
          entries = home.2.1 ∙ ap length f.begins;
          each_proper = subst (AllProper proper) f.begins (proper_of run proper origin r.seats r.history r.signed);
          whole = whole_seen s r id me.0 at;
        },
      )

  pub looks : (slots id k : ℕ) (me : SeatState W S R) → me.0.place ≡ Waits k → me.1 ≡ [] → Allows Rule slots id me 1 (λ n. n) (Looks run proper (step slots 1 0 0 maybe.none) me)
  looks slots id k me is none_out s r wide at small =
      let t = dite (ℕ_discrete k r.serving) (looks_turn slots id k me s r is none_out at) (looks_early slots id k me s r is at) in
      (t.0, t.1, t.2, t.3, subst (λ (st : Place). LooksFrom run proper st me (get_or s.words 1 0) (t.0, carried_after me.1 t.1)) (sym is) t.4)
