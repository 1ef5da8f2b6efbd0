-- Steps that draw a number, count the numbers, and compare what was seen keep the rule.
use Rattle.std.specs.Prelude.{MatchBool}
use Rattle.std.proofs.Common.{◌≡◌, ◌≢◌, ℕ, ◌+◌, ◌<◌, ◌==◌, Bool, true, false, cond, List, [], ◌∷◌, ◌++◌, length, set, get_or, refl, sym, ap, ◌∙◌, subst, ⊎_elim, arith, length-append, eq-eqb, eqb, ne_eqb, Option}
use mathlib.Core.Option.{some, some-injective, some-ne-none}
use mathlib.Core.Option as maybe
use mathlib.Core.Logic.{dite}
use native.Mathlib.Decide.{ℕ_discrete}
use lib.ListN.{get_elem?}
use lib.Seq.{set-get_or}
use prog.Atomic.{either}
use Rattle.atomic_table.specs.Table.{State, Act, step, keeps, stepped, carried_after, Allows, Valid}
use Rattle.push_model.specs.declared.entry.Entry.{Entry}
use Rattle.push_model.specs.Histories.{IsLegal, AllProper}
use Rattle.push_model.specs.declared.mail.MailEntry.{MailEntry}
use Rattle.push_model.specs.MailWords.{IsLegalMail}
use Rattle.turn_board.specs.declared.view.Home.{Home}
use Rattle.turn_board.specs.declared.view.Place.{Place}
use Rattle.turn_board.specs.declared.view.Place.TheVariants.{Free}
use Rattle.turn_board.specs.declared.view.View.{View}
use Rattle.turn_board.specs.Numbers.{most_seats, has, own_by}
use Rattle.push_model.specs.DeskViews.{mail_by}
use Rattle.turn_board.specs.Views.{entry_by, own_of, mail_at, tickets, with_spare, with_count, without_parts, ticket_of, SignsNothing, all_numbers, tickets_out, number_count}
use Rattle.turn_board.specs.Rule.{Fits, MailFits, AllBelow, AllSigned, IsBoard}
use Rattle.turn_board.specs.Plays.{SeatState, DrawsNumber, Counts, Compares, IsSoundSeat}
use Rattle.turn_board.proofs.Rows.{none_true, is_false, none_in, one_total, two_total, total_set, each_set, apart_set, apart_within, has_either, has_later}
use Rattle.turn_board.proofs.Queue.{proper_of, one_has, serves_not_free, homed_else, out_else}
use Rattle.turn_board.proofs.Fronts.{own_by-front}
use Rattle.turn_board.proofs.Longer.{IsLegal-front, AllProper-front}
use Rattle.turn_board.proofs.Mails.{legal-front}
use Rattle.turn_board.proofs.Distincts.{distinct_append, distinct_back}

none_by_mail : (n : ℕ) (ls : List MailEntry) → AllBelow n ls → own_by mail_by (n ∷ []) ls ≡ []
none_by_mail n [] h = refl
none_by_mail n (e ∷ es) h = let low = h.0 in pick (has (n ∷ []) (mail_by e)) (is_false (has (n ∷ []) (mail_by e)) (λ t. let z : n ≡ mail_by e = one_has n (mail_by e) t in omega arith)) (none_by_mail n es h.1)
  where
    pick : (b : Bool) → b ≡ false → own_by mail_by (n ∷ []) es ≡ [] → cond b (e ∷ own_by mail_by (n ∷ []) es) (own_by mail_by (n ∷ []) es) ≡ []
    pick true f g = absurd (none_true (sym f))
    pick false f g = g

more_below : (n : ℕ) (ls : List MailEntry) → AllBelow n ls → AllBelow (n + 1) ls
more_below n [] h = tt
more_below n (l ∷ ls) h = ((let x = h.0 in omega arith), more_below n ls h.1)

module _ {W S R : Type 0} (run : W → S → W × R) (proper : ℕ → S → Bool) (origin : W) where
  abbrev V : Type 0
  V = View W S R

  abbrev St : Type 0
  St = State (Option (Home W)) V

  abbrev Es : Type 0
  Es = List (Entry S R)

  abbrev Rule : St → Type 0
  Rule = IsBoard run proper origin

  -- no entry has a number that was not drawn
  none_by : (n : ℕ) (es : Es) → AllSigned proper n es → own_of (n ∷ []) es ≡ []
  none_by n [] h = refl
  none_by n (e ∷ es) h = let low = h.1 in pick (has (n ∷ []) e.by) (is_false (has (n ∷ []) e.by) (λ t. let z : n ≡ e.by = one_has n e.by t in omega arith)) (none_by n es h.2)
    where
      pick : (b : Bool) → b ≡ false → own_of (n ∷ []) es ≡ [] → cond b (e ∷ own_of (n ∷ []) es) (own_of (n ∷ []) es) ≡ []
      pick true f g = absurd (none_true (sym f))
      pick false f g = g

  more_signed : (n : ℕ) (es : Es) → AllSigned proper n es → AllSigned proper (n + 1) es
  more_signed n [] h = tt
  more_signed n (e ∷ es) h = (h.0, (let l = h.1 in omega arith), more_signed n es h.2)

  -- a step that changes no word, by a seat that keeps its numbers and has no ticket
  quiet : (s : St) (r : Rule s) (i id : ℕ) (cs : List (ℕ × Option (Home W))) (v w : V) → get_elem? s.views id ≡ some v → v.place ≡ Free → w.place ≡ Free → all_numbers w ≡ all_numbers v → MailFits r.mails w → Fits origin r.ticket r.serving r.seats r.history w
      → Rule (stepped s i (get_or s.words i 0) id cs w keeps)
  quiet s r i id cs v w at free free' same mail fits =
      let moved = total_set tickets_out s.views id v w at in
      let counted = total_set number_count s.views id v w at in
      let queue = r.queue in
      let count = r.count in
      let out_v : tickets_out v ≡ 0 = ap (λ (st : Place). length (tickets st)) free in
      let out_w : tickets_out w ≡ 0 = ap (λ (st : Place). length (tickets st)) free' in
      let numbers : number_count w ≡ number_count v = ap length same in
      record {
        history = r.history;
        ticket = r.ticket;
        serving = r.serving;
        seats = r.seats;
        parked = r.parked;
        words = set-get_or s.words i 0 ∙ r.words;
        legal = r.legal;
        signed = r.signed;
        queue = omega arith;
        count = omega arith;
        few = r.few;
        mails = r.mails;
        mail_wide = r.mail_wide;
        mail_legal = r.mail_legal;
        mail_signed = r.mail_signed;
        each_mail = each_set (MailFits r.mails) s.views id w (λ j u _ e. r.each_mail j u e) mail;
        tickets_apart = apart_within ticket_of s.views id v w at r.tickets_apart (λ k h. absurd (none_true (ap (λ (st : Place). has (tickets st) k) (sym free') ∙ h)));
        numbers_apart = apart_within all_numbers s.views id v w at r.numbers_apart (λ k h. ap (λ (l : List ℕ). has l k) (sym same) ∙ h);
        each = each_set (Fits origin r.ticket r.serving r.seats r.history) s.views id w (λ j u _ e. r.each j u e) fits;
        homed = homed_else run proper origin r.history s.homes s.views id v w at (λ k e. serves_not_free k (sym free ∙ e)) r.homed;
        out = out_else run proper origin s r id w (λ k e. serves_not_free k (sym free' ∙ e));
      }

  pub counts : (slots id : ℕ) (me : SeatState W S R) → me.0.place ≡ Free → Allows Rule slots id me 3 (λ n. n) (Counts (step slots 3 0 0 maybe.none) me)
  counts slots id me free s r wide at small =
      let f = r.each id me.0 at in
      let found : get_or s.words 3 0 ≡ r.seats = ap (λ (ws : List ℕ). get_or ws 3 0) r.words in
      let w : V = with_count me.0 (get_or s.words 3 0) in
      let some_of = one_total number_count s.views id me.0 at in
      let count = r.count in (
        w,
        keeps,
        tt,
        quiet s r 3 id me.1 me.0 w at free free refl (r.each_mail id me.0 at) record { first = f.first; rest = f.rest; begins = f.begins; foreign = f.foreign; stands = f.stands; numbered = f.numbered; drawn = f.drawn; unused = f.unused; distinct = f.distinct; parts = f.parts; alone = λ _ _. found },
        (refl, omega arith),
      )

  -- what a seat has seen is sound, since the whole is
  sound : (s : St) (r : Rule s) (id : ℕ) (me : SeatState W S R) → get_elem? s.views id ≡ some me.0 → (w : V) → w.first ≡ me.0.first → w.seen ≡ me.0.seen → w.mail ≡ me.0.mail → IsSoundSeat run proper (w, me.1)
  sound s r id me at w first seen mail =
      let f = r.each id me.0 at in
      let m = (r.each_mail id me.0 at).0 in
      let begins : r.history ≡ w.seen ++ f.rest = f.begins ∙ ap (λ (l : Es). l ++ f.rest) (sym seen) in record {
        legal = λ v e. IsLegal-front run v w.seen f.rest (subst (λ (z : W × Es). IsLegal run z.0 z.1) (λ i. (sym (f.first v (sym first ∙ e)) i, begins i)) r.legal);
        each_proper = AllProper-front proper w.seen f.rest (subst (AllProper proper) begins (proper_of run proper origin r.seats r.history r.signed));
        mail = λ k. subst (λ (ls : List (List MailEntry)). IsLegalMail (mail_at ls k)) (sym mail) (legal-front 0 (mail_at me.0.mail k) (m k).0 (subst IsLegalMail (m k).1 (r.mail_legal k)));
      }

  pub compares : (slots id : ℕ) (me : SeatState W S R) → me.0.place ≡ Free → Allows Rule slots id me 0 (λ n. n) (Compares run proper (step slots 0 0 0 maybe.none) me)
  compares slots id me free s r wide at small =
      let f = r.each id me.0 at in
      let w : V = without_parts me.0 in
      let some_of = one_total number_count s.views id me.0 at in
      let count = r.count in
      let few = r.few in (
        w,
        keeps,
        tt,
        quiet s r 0 id me.1 me.0 w at free free refl (r.each_mail id me.0 at) record { first = f.first; rest = f.rest; begins = f.begins; foreign = f.foreign; stands = f.stands; numbered = f.numbered; drawn = f.drawn; unused = f.unused; distinct = f.distinct; parts = tt; alone = f.alone },
        (refl, f.parts, omega arith, sound s r id me at w refl refl refl),
      )

  abbrev Drawn : SeatState W S R → ℕ → SeatState W S R → Type 0
  Drawn me found m = (m ≡ (with_spare me.0 found, me.1)) × SignsNothing found me.0 × (has me.0.numbers found ≡ false)

  abbrev Draw : ℕ → SeatState W S R → ℕ → SeatState W S R → Type 0
  Draw n me found m = MatchBool (found == n) (Drawn me found m) (m ≡ me)

  draws_none : (slots id n : ℕ) (me : SeatState W S R) → (s : St) (r : Rule s) → me.0.place ≡ Free → get_elem? s.views id ≡ some me.0 → r.seats ≢ n
      → (w : V) × (a : Act (Option (Home W))) × Valid s.homes me.1 a × Rule (stepped s 3 (either (eqb (get_or s.words 3 0) n) (n + 1) (get_or s.words 3 0)) id me.1 w a) × Draw n me (get_or s.words 3 0) (w, carried_after me.1 a)
  draws_none slots id n me s r free at other =
      let found : get_or s.words 3 0 ≡ r.seats = ap (λ (ws : List ℕ). get_or ws 3 0) r.words in
      let differs : eqb (get_or s.words 3 0) n ≡ false = ne_eqb (get_or s.words 3 0) n (λ e. other (sym found ∙ e)) in
      let q : Rule (stepped s 3 (get_or s.words 3 0) id me.1 me.0 keeps) = quiet s r 3 id me.1 me.0 me.0 at free free refl (r.each_mail id me.0 at) (r.each id me.0 at) in (
        me.0,
        keeps,
        tt,
        subst (λ (b : Bool). Rule (stepped s 3 (either b (n + 1) (get_or s.words 3 0)) id me.1 me.0 keeps)) (sym differs) q,
        subst (λ (b : Bool). MatchBool b (Drawn me (get_or s.words 3 0) me) (me ≡ me)) (sym differs) refl,
      )

  draws_one : (slots id n : ℕ) (me : SeatState W S R) → (s : St) (r : Rule s) → me.0.place ≡ Free → length me.0.spare ≡ 0 → 0 < length me.0.numbers → n < most_seats → get_elem? s.views id ≡ some me.0 → r.seats ≡ n
      → (w : V) × (a : Act (Option (Home W))) × Valid s.homes me.1 a × Rule (stepped s 3 (either (eqb (get_or s.words 3 0) n) (n + 1) (get_or s.words 3 0)) id me.1 w a) × Draw n me (get_or s.words 3 0) (w, carried_after me.1 a)
  draws_one slots id n me s r free no_spare some_number low at hit =
      let f = r.each id me.0 at in
      let x : ℕ = get_or s.words 3 0 in
      let found : x ≡ r.seats = ap (λ (ws : List ℕ). get_or ws 3 0) r.words in
      let same : eqb x n ≡ true = eq-eqb x n (found ∙ hit) in
      let bare : me.0.spare ≡ [] = none_in me.0.spare no_spare in
      let w : V = with_spare me.0 x in
      let m : SeatState W S R = (w, me.1) in
      let moved = total_set tickets_out s.views id me.0 w at in
      let counted = total_set number_count s.views id me.0 w at in
      let before : number_count me.0 ≡ length me.0.spare + length me.0.numbers = length-append me.0.spare me.0.numbers in
      let after : number_count w ≡ length me.0.numbers + 1 = length-append (x ∷ []) me.0.numbers ∙ omega arith in
      let queue = r.queue in
      let count = r.count in
      let few = r.few in
      let new : own_of (x ∷ []) r.history ≡ [] = subst (λ (k : ℕ). own_of (k ∷ []) r.history ≡ []) (sym found) (none_by r.seats r.history r.signed) in
      let mail = r.each_mail id me.0 at in
      let new_mail : (k : ℕ) → own_by mail_by (x ∷ []) (mail_at r.mails k) ≡ [] = λ k. subst (λ (z : ℕ). own_by mail_by (z ∷ []) (mail_at r.mails k) ≡ []) (sym found) (none_by_mail r.seats (mail_at r.mails k) (r.mail_signed k)) in
      let not_mine : (k : ℕ) → x ≡ k → has (all_numbers me.0) k ≡ true → ⊥ = λ k e h. let l = f.drawn k h in omega arith in
      let of_mine : (k : ℕ) → has me.0.numbers k ≡ true → has (all_numbers me.0) k ≡ true = λ k h. has_later me.0.spare me.0.numbers k h in
      let numbered = f.numbered in
      let q : Rule (stepped s 3 (n + 1) id me.1 w keeps) = record {
        history = r.history;
        ticket = r.ticket;
        serving = r.serving;
        seats = n + 1;
        parked = r.parked;
        words = ap (λ (ws : List ℕ). set ws 3 (n + 1)) r.words;
        legal = r.legal;
        signed = subst (λ (k : ℕ). AllSigned proper (k + 1) r.history) hit (more_signed r.seats r.history r.signed);
        queue = omega arith;
        count = omega arith;
        few = omega arith;
        mails = r.mails;
        mail_wide = r.mail_wide;
        mail_legal = r.mail_legal;
        mail_signed = λ k. subst (λ (z : ℕ). AllBelow (z + 1) (mail_at r.mails k)) hit (more_below r.seats (mail_at r.mails k) (r.mail_signed k));
        each_mail = each_set (MailFits r.mails) s.views id w (λ j u _ e. r.each_mail j u e) (mail.0, new_mail);
        tickets_apart = apart_within ticket_of s.views id me.0 w at r.tickets_apart (λ k h. h);
        numbers_apart = apart_set all_numbers s.views id w r.numbers_apart (λ j v k other e hv hw. ⊎_elim
            (λ t. let l = (r.each j v e).drawn k hv in let z : x ≡ k = one_has x k t in omega arith)
            (λ t. other (r.numbers_apart j id v me.0 k e at hv (of_mine k t)))
            (has_either (x ∷ []) me.0.numbers k hw));
        each = each_set (Fits origin r.ticket r.serving (n + 1) r.history) s.views id w
            (λ j v other e. let g = r.each j v e in let two = two_total number_count s.views j id v me.0 other e at in record {
              first = g.first;
              rest = g.rest;
              begins = g.begins;
              foreign = g.foreign;
              stands = g.stands;
              numbered = g.numbered;
              drawn = λ k h. (let l = g.drawn k h in omega arith);
              unused = g.unused;
              distinct = g.distinct;
              parts = g.parts;
              alone = λ l c. absurd (let z = g.alone l c in omega arith);
            })
            record {
              first = f.first;
              rest = f.rest;
              begins = f.begins;
              foreign = f.foreign;
              stands = f.stands;
              numbered = omega arith;
              drawn = λ k h. ⊎_elim (λ t. let z : x ≡ k = one_has x k t in omega arith) (λ t. let l = f.drawn k (of_mine k t) in omega arith) (has_either (x ∷ []) me.0.numbers k h);
              unused = new;
              distinct = distinct_append (x ∷ []) me.0.numbers (refl, tt) (distinct_back me.0.spare me.0.numbers f.distinct) (λ k a b. not_mine k (one_has x k a) (of_mine k b));
              parts = f.parts;
              alone = λ l _. absurd (omega arith);
            };
        homed = homed_else run proper origin r.history s.homes s.views id me.0 w at (λ k e. serves_not_free k (sym free ∙ e)) r.homed;
        out = out_else run proper origin s r id w (λ k e. serves_not_free k (sym free ∙ e));
      } in (
        w,
        keeps,
        tt,
        subst (λ (b : Bool). Rule (stepped s 3 (either b (n + 1) x) id me.1 w keeps)) (sym same) q,
        subst (λ (b : Bool). MatchBool b (Drawn me x m) (m ≡ me)) (sym same)
            (refl, (own_by-front entry_by (x ∷ []) me.0.seen f.rest (ap (own_of (x ∷ [])) (sym f.begins) ∙ new), λ k. let m = mail.0 k in own_by-front mail_by (x ∷ []) (mail_at me.0.mail k) m.0 (ap (own_by mail_by (x ∷ [])) (sym m.1) ∙ new_mail k)), is_false (has me.0.numbers x) (λ t. not_mine x refl (of_mine x t))),
      )

  pub draws_number : (slots id n : ℕ) (me : SeatState W S R) → me.0.place ≡ Free → length me.0.spare ≡ 0 → 0 < length me.0.numbers → n < most_seats
      → Allows Rule slots id me 3 (λ x. either (x == n) (n + 1) x) (DrawsNumber (step slots 3 n (n + 1) maybe.none) me)
  draws_number slots id n me free no_spare some_number low s r wide at small = dite (ℕ_discrete r.seats n) (draws_one slots id n me s r free no_spare some_number low at) (draws_none slots id n me s r free at)
  -- the spare number goes to a new seat
