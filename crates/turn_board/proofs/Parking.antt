-- A step on the word of those who park keeps the rule.
use Rattle.std.proofs.Common.{ℕ, Bool, List, set, get_or, refl, sym, ap, subst, Option}
use mathlib.Core.Option.{some, some-injective, some-ne-none}
use mathlib.Core.Option as maybe
use Rattle.atomic_table.specs.Table.{State, step, keeps, Allows}
use Rattle.atomic_table.proofs.Lists.{set_again}
use Rattle.push_model.specs.declared.entry.Entry.{Entry}
use Rattle.turn_board.specs.declared.view.Home.{Home}
use Rattle.turn_board.specs.declared.view.View.{View}
use Rattle.turn_board.specs.Rule.{IsBoard}
use Rattle.turn_board.specs.Plays.{SeatState, Stays}

module _ {W S R : Type 0} (run : W → S → W × R) (proper : ℕ → S → Bool) (origin : W) where
  abbrev V : Type 0
  V = View W S R

  abbrev St : Type 0
  St = State (Option (Home W)) V

  abbrev Es : Type 0
  Es = List (Entry S R)

  abbrev Rule : St → Type 0
  Rule = IsBoard run proper origin

  -- the rule says nothing of that word
  reparked : (s : St) (r : Rule s) (n : ℕ) → Rule record { words = set s.words 4 n; homes = s.homes; views = s.views }
  reparked s r n = record {
    history = r.history;
    mails = r.mails;
    ticket = r.ticket;
    serving = r.serving;
    seats = r.seats;
    parked = n;
    words = ap (λ (ws : List ℕ). set ws 4 n) r.words;
    legal = r.legal;
    signed = r.signed;
    queue = r.queue;
    tickets_apart = r.tickets_apart;
    count = r.count;
    few = r.few;
    numbers_apart = r.numbers_apart;
    each = r.each;
    homed = r.homed;
    out = r.out;
    mail_wide = r.mail_wide;
    mail_legal = r.mail_legal;
    mail_signed = r.mail_signed;
    each_mail = r.each_mail;
  }

  -- a step on the word of those who park, by a seat that learns nothing
  pub stays : (slots id : ℕ) (me : SeatState W S R) (f : ℕ → ℕ) (a : ℕ) → Allows Rule slots id me 4 f (Stays (step slots 4 a 0 maybe.none) me)
  stays slots id me f a s r wide at small =
      let n : ℕ = f (get_or s.words 4 0) in (
        me.0,
        keeps,
        tt,
        subst (λ (z : List V). Rule record { words = set s.words 4 n; homes = s.homes; views = z }) (sym (set_again s.views id me.0 at)) (reparked s r n),
        refl,
      )
