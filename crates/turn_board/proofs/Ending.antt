-- The end of a turn keeps the rule.
use Rattle.std.proofs.Common.{◌≡◌, ◌≢◌, ℕ, ◌+◌, ◌%◌, Bool, true, List, [], ◌∷◌, length, map, set, get_or, refl, sym, ap, ◌∙◌, subst, inl, arith, Option, Some}
use Rattle.std.proofs.Math.Nat.{mod-add-mod}
use mathlib.Core.Option.{some, some-injective, some-ne-none}
use mathlib.Core.Option as maybe
use lib.ListN.{get_elem?}
use Rattle.atomic_table.specs.Table.{State, step, gives, put_back, Allows}
use Rattle.push_model.specs.declared.entry.Entry.{Entry}
use Rattle.push_model.specs.Histories.{world_after}
use Rattle.push_model.specs.MailWords.{out}
use Rattle.turn_board.specs.declared.view.Home.{Home}
use Rattle.turn_board.specs.declared.view.Place.{Place}
use Rattle.turn_board.specs.declared.view.Place.TheVariants.{Free, Waits, Serves}
use Rattle.turn_board.specs.declared.view.View.{View}
use Rattle.turn_board.specs.Numbers.{word_size, has}
use Rattle.turn_board.specs.Views.{tickets, at_place, ticket_of, all_numbers, tickets_out, number_count}
use Rattle.turn_board.specs.Rule.{Stands, Fits, MailFits, IsBoard}
use Rattle.turn_board.specs.Plays.{SeatState, Ends}
use Rattle.turn_board.proofs.Rows.{none_true, total_set, each_set, apart_within}
use Rattle.turn_board.proofs.Queue.{has_self, serves_not_free, one_serves}

module _ {W S R : Type 0} (run : W → S → W × R) (proper : ℕ → S → Bool) (origin : W) where
  abbrev V : Type 0
  V = View W S R

  abbrev St : Type 0
  St = State (Option (Home W)) V

  abbrev Es : Type 0
  Es = List (Entry S R)

  abbrev Rule : St → Type 0
  Rule = IsBoard run proper origin

  -- another seat, after the turn has ended
  stands_end : (t n : ℕ) (h : Es) (v : V) (st : Place) → ((k : ℕ) → has (tickets st) k ≡ true → k ≡ n → ⊥) → Stands t n h v st → Stands t (n + 1) h v st
  stands_end t n h v Free not s = tt
  stands_end t n h v (Waits k) not s = let low = s.0 in let differs : k ≢ n = not k (has_self k) in (omega arith, s.1)
  stands_end t n h v (Serves k) not s = absurd (not k (has_self k) s.0)

  pub ends : (slots id k : ℕ) (me : SeatState W S R) (w₀ : W) (h : Home W) → me.0.place ≡ Serves k → me.1 ≡ (0, Some h) ∷ [] → me.0.first ≡ Some w₀ → h.object ≡ world_after run w₀ me.0.known → h.entries ≡ length me.0.known
      → Allows Rule slots id me 1 (λ n. (n + 1) % word_size) (Ends (step slots 1 1 0 maybe.none) me)
  ends slots id k me w₀ h is holds first there entries s r wide at small =
      let f = r.each id me.0 at in
      let stands = subst (Stands r.ticket r.serving r.history me.0) is f.stands in
      let mine : k ≡ r.serving = stands.0 in
      let all : me.0.known ≡ r.history = stands.2 in
      let w : V = at_place me.0 Free in
      let moved = total_set tickets_out s.views id me.0 w at in
      let counted = total_set number_count s.views id me.0 w at in
      let one_out : tickets_out me.0 ≡ 1 = ap (λ (st : Place). length (tickets st)) is in
      let queue = r.queue in
      let count = r.count in
      let back : put_back s.homes me.1 ≡ some (Some h) ∷ [] = ap (put_back s.homes) holds ∙ ap (λ (hs : List (maybe.Option (Option (Home W)))). set hs 0 (some (Some h))) (r.out id k me.0 at is) in
      let not_theirs = λ (j : ℕ) (v : V) (other : j ≢ id) (there : get_elem? s.views j ≡ some v) (x : ℕ) (t : has (ticket_of v) x ≡ true) (same : x ≡ r.serving). other (one_serves run proper origin s r id k me.0 at is j x v there (subst (λ (z : ℕ). has (ticket_of v) z ≡ true) (same ∙ sym mine) t)) in (
        w,
        gives,
        tt,
        record {
          history = r.history;
          ticket = r.ticket;
          serving = r.serving + 1;
          seats = r.seats;
          parked = r.parked;
          words = ap (λ (ws : List ℕ). set ws 1 ((get_or ws 1 0 + 1) % word_size)) r.words ∙ ap (λ (x : ℕ). r.ticket % word_size ∷ x ∷ length r.history ∷ r.seats ∷ r.parked ∷ map out r.mails) (mod-add-mod r.serving word_size 1);
          legal = r.legal;
          signed = r.signed;
          queue = omega arith;
          count = omega arith;
          few = r.few;
          mails = r.mails;
          mail_wide = r.mail_wide;
          mail_legal = r.mail_legal;
          mail_signed = r.mail_signed;
          each_mail = each_set (MailFits r.mails) s.views id w (λ j u _ e. r.each_mail j u e) (r.each_mail id me.0 at);
          tickets_apart = apart_within ticket_of s.views id me.0 w at r.tickets_apart (λ x t. absurd (none_true t));
          numbers_apart = apart_within all_numbers s.views id me.0 w at r.numbers_apart (λ x t. t);
          each = each_set (Fits origin r.ticket (r.serving + 1) r.seats r.history) s.views id w
              (λ j v other e. let g = r.each j v e in record { first = g.first; rest = g.rest; begins = g.begins; foreign = g.foreign; stands = stands_end r.ticket r.serving r.history v v.place (not_theirs j v other e) g.stands; numbered = g.numbered; drawn = g.drawn; unused = g.unused; distinct = g.distinct; parts = g.parts; alone = g.alone })
              record { first = f.first; rest = f.rest; begins = f.begins; foreign = f.foreign; stands = tt; numbered = omega arith; drawn = f.drawn; unused = f.unused; distinct = f.distinct; parts = f.parts; alone = f.alone };
          homed = inl (h, back, (there ∙ (λ i. world_after run (f.first w₀ first i) (all i)), entries ∙ ap length all));
          out = λ j x v e serves. each_set (λ (v : V). v.place ≡ Serves x → put_back s.homes me.1 ≡ maybe.none ∷ []) s.views id w
              (λ i u other e' serves'. let g = subst (Stands r.ticket r.serving r.history u) serves' (r.each i u e').stands in absurd (not_theirs i u other e' x (subst (λ (st : Place). has (tickets st) x ≡ true) (sym serves') (has_self x)) g.0))
              (λ free. absurd (serves_not_free x free)) j v e serves;
        },
        refl,
      )
