-- What a turn leaves.
use Rattle.std.specs.Prelude.{IfOk, OnErr}
use Rattle.turn_board.proofs.Rows.{none_true, own_of-append, own_by-mine}
use Rattle.turn_board.specs.declared.view.Place.{Place}
use Rattle.turn_board.proofs.Rests.{AtRest}
use Rattle.std.proofs.Common.{Result, Ok, Err, append-nil, ◌≡◌, ℕ, ◌+◌, ◌<◌, Bool, true, List, [], ◌∷◌, ◌++◌, length, refl, sym, ap, ◌∙◌, subst, arith, Option, Some, None, length-append}
use Rattle.push_model.specs.Histories.{entry}
use Rattle.turn_board.proofs.Longer.{world_after-step, IsLegal-step, AllProper-snoc}
use Rattle.push_model.specs.declared.entry.Entry.{Entry}
use Rattle.push_model.specs.Histories.{world_after, IsLegal, AllProper}
use Rattle.turn_board.specs.declared.view.Home.{Home}
use Rattle.turn_board.specs.declared.view.Place.TheVariants.{Free, Waits, Serves}
use Rattle.turn_board.specs.Numbers.{has}
use Rattle.turn_board.specs.Views.{entry_by, own_of, at_place, with_known, with_entries}
use Rattle.turn_board.specs.Plays.{SeatState, Begins}
use Rattle.turn_board.specs.Seats.{IsResting, HasTurn, Holding, is_there, is_free}

one_home : {W : Type 0} → (h g : W) → Some h ≡ Some g → h ≡ g
one_home h g e = cc

snd_of : {W : Type 0} → Option W → List (ℕ × Option W) → Option W
snd_of d [] = d
snd_of d (x ∷ xs) = x.1

same_home : {W : Type 0} → (h g : W) → ◌≡◌ {A = List (ℕ × Option W)} ((0, Some h) ∷ []) ((0, Some g) ∷ []) → h ≡ g
unfolding snd_of
same_home {W} h g e = one_home h g (ap (λ (l : List (ℕ × Option W)). snd_of (Some h) l) e)

module _ {W S R : Type 0} (run : W → S → W × R) (proper : ℕ → S → Bool) where
  pub has_turn : (k : ℕ) (me m m' : SeatState W S R) (home : Home W) → Begins run proper k me m → m.1 ≡ (0, Some home) ∷ [] → m' ≡ (m.0, (0, None) ∷ []) → HasTurn run proper me home m'
  has_turn k me m m' home b holds is =
      let same : b.home ≡ home = same_home b.home home (ap (λ (x : SeatState W S R). x.1) (sym b.after) ∙ holds) in
      record {
        between = b.between;
        ticket = k;
        foreign = b.foreign;
        after = is ∙ ap (λ (x : SeatState W S R). (x.0, (0, None) ∷ [])) b.after;
        legal = b.legal;
        world = λ w e. ap (λ (h : Home W). h.object) (sym same) ∙ b.world w e;
        entries = ap (λ (h : Home W). h.entries) (sym same) ∙ b.entries;
        each_proper = b.each_proper;
        whole = b.whole;
      }

  pub acted : (me m : SeatState W S R) (home : Home W) (next : W) (by : ℕ) (s said : S) (r : R) → Holding run proper me home → run home.object s ≡ (next, r) → said ≡ s → m ≡ (with_entries me.0 (entry by said r ∷ []), me.1)
      → Holding run proper m record { object = next; entries = home.entries + 1 }
  acted me m home next by s said r h did same is =
      let n : SeatState W S R = (with_entries me.0 (entry by said r ∷ []), me.1) in
      let did' : run home.object said ≡ (next, r) = subst (λ (x : S). run home.object x ≡ (next, r)) (sym same) did in
      let after : Holding run proper n record { object = next; entries = home.entries + 1 } = record {
        ticket = h.ticket;
        origin = h.origin;
        serves = h.serves;
        out = h.out;
        first = h.first;
        there = sym (world_after-step run h.origin home.object next me.0.known by said r (sym h.there) did');
        entries = let e = h.entries in omega (arith, length-append me.0.known (entry by said r ∷ []));
      } in
      subst (λ (x : SeatState W S R). Holding run proper x record { object = next; entries = home.entries + 1 }) (sym is) after

  -- where memory was wanted, neither moved
  pub unmoved : (me m : SeatState W S R) (home end : Home W) (object : W) → m ≡ me → end ≡ record { object = object; entries = home.entries } → object ≡ home.object → Holding run proper me home → Holding run proper m end
  unmoved me m home end object same is kept h =
      let back : end ≡ home = is ∙ ap (λ (o : W). record { object = o; entries = home.entries }) kept in
      subst (λ (x : SeatState W S R). Holding run proper x end) (sym same) (subst (Holding run proper me) (sym back) h)

  pub first_of : (v : Option W) → is_there v ≡ true → (w : W) × (v ≡ Some w)
  first_of (Some w) e = (w, refl)
  first_of None e = absurd (none_true e)

  free_of : (st : Place) → is_free st ≡ true → st ≡ Free
  free_of Free e = refl
  free_of (Waits k) e = absurd (none_true e)
  free_of (Serves k) e = absurd (none_true e)

  -- the turn, as seen from before the ticket was drawn
  pub turned : (k : ℕ) (me m₁ m₂ : SeatState W S R) (home : Home W) → m₁ ≡ (at_place me.0 (Waits k), me.1) → HasTurn run proper m₁ home m₂ → HasTurn run proper me home m₂
  turned k me m₁ m₂ home is t = let u = subst (λ (x : SeatState W S R). HasTurn run proper x home m₂) is t in record {
    between = u.between;
    ticket = u.ticket;
    foreign = u.foreign;
    after = u.after;
    legal = u.legal;
    world = u.world;
    entries = u.entries;
    each_proper = u.each_proper;
    whole = u.whole;
  }

  pub holding : (me m : SeatState W S R) (home home' : Home W) → HasTurn run proper me home m → is_there me.0.first ≡ true → home' ≡ home → Holding run proper m home'
  holding me m home home' t there same =
      let f = first_of me.0.first there in
      let n : SeatState W S R = (at_place (with_known me.0 (me.0.seen ++ t.between)) (Serves t.ticket), (0, None) ∷ []) in
      let h : Holding run proper n home = record { ticket = t.ticket; origin = f.0; serves = refl; out = refl; first = f.1; there = t.world f.0 f.1; entries = t.entries } in
      subst (λ (z : SeatState W S R × Home W). Holding run proper z.0 z.1) (λ i. (sym t.after i, sym same i)) h

  abbrev after_free : SeatState W S R → SeatState W S R
  after_free x = (at_place x.0 Free, [])

  -- what a call leaves
  pub record Called (me : SeatState W S R) (e : Entry S R) (m : SeatState W S R) : Type 0 where
    pub seen : (between : List (Entry S R)) × (own_of me.0.numbers between ≡ []) × (m.0.seen ≡ (me.0.seen ++ between) ++ e ∷ [])
    pub own : own_of m.0.numbers m.0.seen ≡ own_of me.0.numbers me.0.seen ++ e ∷ []
    pub legal : (w : W) → m.0.first ≡ Some w → IsLegal run w m.0.seen
    pub each_proper : AllProper proper m.0.seen

  pub called : (me m₂ m₃ m₄ : SeatState W S R) (home : Home W) (next : W) (by : ℕ) (s : S) (r : R) → HasTurn run proper me home m₂ → has me.0.numbers by ≡ true → proper by s ≡ true → run home.object s ≡ (next, r)
      → m₃ ≡ (with_entries m₂.0 (entry by s r ∷ []), m₂.1) → m₄ ≡ (at_place m₃.0 Free, []) → Called me (entry by s r) m₄
  called me m₂ m₃ m₄ home next by s r t mine fine did third fourth =
      let e : Entry S R = entry by s r in
      let all : List (Entry S R) = me.0.seen ++ t.between in
      let n : SeatState W S R = (at_place (with_entries (at_place (with_known me.0 all) (Serves t.ticket)) (e ∷ [])) Free, []) in
      let is : m₄ ≡ n = fourth ∙ ap (λ (x : SeatState W S R). after_free x) (third ∙ ap (λ (x : SeatState W S R). (with_entries x.0 (e ∷ []), x.1)) t.after) in
      let done : Called me e n = record {
        seen = (t.between, t.foreign, refl);
        own = own_of-append me.0.numbers all (e ∷ []) ∙ (λ i. (own_of-append me.0.numbers me.0.seen t.between ∙ ap (λ l. own_of me.0.numbers me.0.seen ++ l) t.foreign ∙ append-nil (own_of me.0.numbers me.0.seen)) i ++ own_by-mine entry_by me.0.numbers e mine i);
        legal = λ w f. IsLegal-step run w home.object next all by s r (t.legal w f) (sym (t.world w f)) did;
        each_proper = AllProper-snoc proper all e t.each_proper fine;
      } in
      subst (λ (x : SeatState W S R). Called me e x) (sym is) done

  -- the seat after its turn, whatever the answer
  pub rests_called : {X Y : Type 0} → (r : Result X Y) (Z : Type 0) (e : X → Entry S R) (number : ℕ) (me m₂ m₃ m₄ : SeatState W S R) (home : Home W) → IsResting number me → HasTurn run proper me home m₂
      → IfOk r (λ x. m₃ ≡ (with_entries m₂.0 (e x ∷ []), m₂.1)) → OnErr r ((m₃ ≡ m₂) × Z) → m₄ ≡ (at_place m₃.0 Free, []) → AtRest me m₄ × (m₄.0.mail ≡ me.0.mail)
  rests_called (Ok x) Z e number me m₂ m₃ m₄ home h t ok err is = subst (λ (y : SeatState W S R). AtRest me y × (y.0.mail ≡ me.0.mail)) (sym (is ∙ ap after_free (ok ∙ ap (λ (y : SeatState W S R). (with_entries y.0 (e x ∷ []), y.1)) t.after)))
      (record { first = refl; numbers = refl; free = refl; out = refl; spare = h.none_spare }, refl)
  rests_called (Err y) Z e number me m₂ m₃ m₄ home h t ok err is = subst (λ (y : SeatState W S R). AtRest me y × (y.0.mail ≡ me.0.mail)) (sym (is ∙ ap after_free (err.0 ∙ t.after)))
      (record { first = refl; numbers = refl; free = refl; out = refl; spare = h.none_spare }, refl)

  -- nothing more is seen where the entry was not added
  pub unseen : {X Y : Type 0} → (r : Result X Y) (Z : Type 0) (me m₂ m₃ m₄ : SeatState W S R) (home : Home W) → HasTurn run proper me home m₂ → OnErr r ((m₃ ≡ m₂) × Z) → m₄ ≡ (at_place m₃.0 Free, []) → OnErr r (m₄.0.seen ≡ me.0.seen)
  unseen (Ok x) Z me m₂ m₃ m₄ home t err is = err
  unseen (Err y) Z me m₂ m₃ m₄ home t err is = ap (λ (y : SeatState W S R). y.0.seen) (is ∙ ap after_free (err.0 ∙ t.after))

  -- what was seen is the whole history, and this is what was at home
  pub record Ended (me : SeatState W S R) (object : W) : Type 0 where
    pub each_proper : AllProper proper me.0.seen
    pub legal : (w : W) → me.0.first ≡ Some w → IsLegal run w me.0.seen
    pub world : (w : W) → me.0.first ≡ Some w → object ≡ world_after run w me.0.seen

  -- the turn of a seat that knows that no other has a number
  pub ended : (me m : SeatState W S R) (home : Home W) → HasTurn run proper me home m → length me.0.spare ≡ 0 → 0 < me.0.counted → me.0.counted ≡ length me.0.numbers → Ended me home.object
  ended me m home t bare counted full =
      let all : me.0.seen ++ t.between ≡ me.0.seen = ap (λ (l : List (Entry S R)). me.0.seen ++ l) (t.whole bare counted full) ∙ append-nil me.0.seen in record {
        each_proper = subst (AllProper proper) all t.each_proper;
        legal = λ w e. subst (IsLegal run w) all (t.legal w e);
        world = λ w e. t.world w e ∙ ap (world_after run w) all;
      }

pub IfOk-both : {X Y : Type 0} (r : Result X Y) (P Q Z : X → Type 0) → ((x : X) → P x → Q x → Z x) → IfOk r P → IfOk r Q → IfOk r Z
IfOk-both (Ok x) P Q Z f p q = f x p q
IfOk-both (Err y) P Q Z f p q = p
