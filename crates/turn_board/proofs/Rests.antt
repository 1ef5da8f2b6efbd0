-- A pass that took in another is at rest.
use Rattle.std.proofs.Common.{◌≡◌, ℕ, ◌+◌, ◌<◌, ◌≤◌, true, List, [], ◌++◌, length, refl, sym, ap, ◌∙◌, subst, arith, length-append}
use Rattle.push_model.specs.declared.mail.MailEntry.{MailEntry}
use Rattle.turn_board.specs.Numbers.{most_seats, has}
use Rattle.turn_board.specs.Views.{with_count, with_mail, with_spare, kept_half, given_half, joined, without_parts, part_of, IsPart, AllParts}
use Rattle.turn_board.specs.Plays.{SeatState}
use Rattle.turn_board.specs.Seats.{IsResting, is_there, is_free}
use Rattle.turn_board.proofs.Rows.{has_sooner}
use Rattle.turn_board.proofs.Queue.{has_self}

module _ {W S R : Type 0} where
  -- the seat has the numbers that it had, and neither a ticket nor a slot
  pub record AtRest (me m : SeatState W S R) : Type 0 where
    pub first : m.0.first ≡ me.0.first
    pub numbers : m.0.numbers ≡ me.0.numbers
    pub free : is_free m.0.place ≡ true
    pub out : length m.1 ≡ 0
    pub spare : length m.0.spare ≡ 0

  pub still_rests : (number : ℕ) (me m : SeatState W S R) → IsResting number me → AtRest me m → IsResting number m
  still_rests number me m h r = record {
    first = ap is_there r.first ∙ h.first;
    free = r.free;
    none_out = r.out;
    numbered = ap (λ (ns : List ℕ). has ns number) r.numbers ∙ h.numbered;
    some_number = subst (λ (ns : List ℕ). 0 < length ns) (sym r.numbers) h.some_number;
    none_spare = r.spare;
  }

  pub still_counts : (joined : ℕ) (me m : SeatState W S R) → (joined ≡ length me.0.numbers) × (joined ≤ most_seats) → AtRest me m → (joined ≡ length m.0.numbers) × (joined ≤ most_seats)
  still_counts joined me m h r = (h.0 ∙ ap length (sym r.numbers), h.1)

  pub rests_count : (number n : ℕ) (me m : SeatState W S R) → IsResting number me → m ≡ (with_count me.0 n, me.1) → AtRest me m
  rests_count number n me m h is = subst (AtRest me) (sym is) record { first = refl; numbers = refl; free = h.free; out = h.none_out; spare = h.none_spare }

  pub rests_mail : (number slot : ℕ) (ls : List MailEntry) (me m : SeatState W S R) → IsResting number me → m ≡ (with_mail me.0 slot ls, me.1) → AtRest me m
  rests_mail number slot ls me m h is = subst (AtRest me) (sym is) record { first = refl; numbers = refl; free = h.free; out = h.none_out; spare = h.none_spare }

  pub rests_split : (number n : ℕ) (me m₁ m₂ : SeatState W S R) → IsResting number me → m₁ ≡ (with_spare me.0 n, me.1) → m₂ ≡ (kept_half m₁.0, m₁.1) → AtRest me m₂
  rests_split number n me m₁ m₂ h drawn is = subst (AtRest me) (sym (is ∙ ap (λ (x : SeatState W S R). (kept_half x.0, x.1)) drawn)) record { first = refl; numbers = refl; free = h.free; out = h.none_out; spare = refl }

  -- the seat that came by a split
  pub given_rests : (number n : ℕ) (me m₁ m : SeatState W S R) → IsResting number me → m₁ ≡ (with_spare me.0 n, me.1) → m ≡ (given_half m₁.0, []) → IsResting n m × (1 ≡ length m.0.numbers)
  given_rests number n me m₁ m h drawn is =
      subst (λ (y : SeatState W S R). IsResting n y × (1 ≡ length y.0.numbers)) (sym (is ∙ ap (λ (y : SeatState W S R). (given_half y.0, [])) drawn))
      (record { first = h.first; free = refl; none_out = refl; numbered = has_self n; some_number = omega arith; none_spare = refl }, refl)

  abbrev pub after_join : SeatState W S R → SeatState W S R → SeatState W S R
  after_join me n = (without_parts (joined me.0 n.0), me.1)

  pub joined_rests : (number : ℕ) (me n m : SeatState W S R) → IsResting number me → m ≡ after_join me n → IsResting number m
  joined_rests number me n m h is = subst (IsResting number) (sym is) record {
    first = h.first;
    free = h.free;
    none_out = h.none_out;
    numbered = has_sooner me.0.numbers n.0.numbers number h.numbered;
    some_number = let l = h.some_number in omega (arith, length-append me.0.numbers n.0.numbers);
    none_spare = refl;
  }

  pub joined_counts : (a b : ℕ) (me n m : SeatState W S R) → m ≡ after_join me n → a ≡ length me.0.numbers → b ≡ length n.0.numbers → length (me.0.numbers ++ n.0.numbers) ≤ most_seats → (a + b ≡ length m.0.numbers) × (a + b ≤ most_seats)
  joined_counts a b me n m is ha hb few =
      let l : length (me.0.numbers ++ n.0.numbers) ≡ length me.0.numbers + length n.0.numbers = length-append me.0.numbers n.0.numbers in
      let e : length m.0.numbers ≡ length (me.0.numbers ++ n.0.numbers) = ap (λ (x : SeatState W S R). length x.0.numbers) is in
      (omega arith, omega arith)

  -- what both had seen is part of what is seen
  pub joined_parts : (me n m : SeatState W S R) → m ≡ after_join me n → AllParts (joined me.0 n.0).seen (joined me.0 n.0).mail (joined me.0 n.0).parts → IsPart m.0.seen m.0.mail (part_of me.0) × IsPart m.0.seen m.0.mail (part_of n.0)
  joined_parts me n m is parts = subst (λ (x : SeatState W S R). IsPart x.0.seen x.0.mail (part_of me.0) × IsPart x.0.seen x.0.mail (part_of n.0)) (sym is) (parts.0, parts.1.0)
