-- Mail, pumps and rounds, one after the other.
use Rattle.std.proofs.Common.{◌≡◌, ◌<◌, ◌+◌, ◌==◌, ℕ, zero, suc, add-one, Bool, true, false, cond, List, [], ◌∷◌, ◌++◌, length, get_or, set, take, drop, map, refl, ap, sym, ◌∙◌, arith, subst, Option, Some}
use Rattle.std.specs.Prelude.{slice_get}
use Rattle.std.specs.List.{remove}
use Rattle.std.proofs.lemmas.Bool.{eqb-true}
use Rattle.std.proofs.lemmas.List.{length-set, take-set, drop-set-lt}
use Rattle.push_model.specs.DeskViews.{DeskView, Calls, MailEndsWith, Mails, written}
use Rattle.push_model.specs.MailWords.{mail_of}
use Rattle.push_model.specs.declared.mail.Mail.TheVariants.{Quiet, Bits}
use Rattle.push_model.specs.declared.mail.MailChange.TheVariants.{Taken}
use Rattle.session_front.specs.Pumps.{PumpMade}
use Rattle.session_front.specs.declared.live.Place.{Place}
use Rattle.session_front.specs.declared.live.Pumped.{Pumped}
use Rattle.session_front.specs.declared.live.Pumped.TheVariants.{Moved}
use Rattle.node_sessions.specs.Seats.{SeatView, seat_sides, told}
use Rattle.node_sessions.specs.Mail.{ShardRead, MailRead}
use Rattle.node_sessions.specs.Pumps.{Served, SeatPumped, PumpsMade, is_over}
use Rattle.node_sessions.specs.Loops.{RoundMade, RoundsMade}
use Rattle.node_sessions.proofs.SeatLemmas.{seat_at, told_nothing}

-- ---- mail

-- nothing was taken
quiet_by : (b : Bool) (n : ℕ) → (n == 0) ≡ b → Quiet ≡ cond b Quiet (Bits n) → n ≡ 0
quiet_by true n e h = eqb-true n 0 e
quiet_by false n e h = cc

none_taken : (n : ℕ) → Quiet ≡ mail_of n → n ≡ 0
none_taken n h = quiet_by (n == 0) n refl h

module _ (node k : ℕ) (a b : DeskView) (xs : List SeatView) where
  pub read_quiet : (n : ℕ) → Quiet ≡ mail_of n → Calls a b [] → Mails a b (written k node (Taken n) ∷ []) → MailEndsWith a b k node (Taken n) → ShardRead node k a b xs xs
  read_quiet n e f g last = record {
    bits = n;
    calls = f;
    mail = g;
    last = last;
    seats = sym (ap (λ m. map (told a.size k m) xs) (none_taken n e) ∙ told_nothing a.size k xs);
  }

-- the mail of so many shards was read, and there are as many shards as before
pub record ReadSo (node count : ℕ) (a b : DeskView) (xs ys : List SeatView) : Type 0 where
  pub read : MailRead node count a b xs ys
  pub size : b.size ≡ a.size

pub read_none : (node : ℕ) (a : DeskView) (xs : List SeatView) → ReadSo node 0 a a xs xs
read_none node a xs = record { read = (refl, refl); size = refl }

pub read_more : (node count : ℕ) (a b c : DeskView) (xs ys zs : List SeatView) → ReadSo node count a b xs ys → ShardRead node count b c ys zs → ReadSo node (count + 1) a c xs zs
read_more node count a b c xs ys zs so h = record {
  read = subst (λ (m : ℕ). MailRead node m a c xs zs) (sym (add-one count)) (b, ys, so.read, h);
  size = h.calls.same.size ∙ so.size;
}

-- ---- one pump

-- what is taken out may be changed before
remove_put : {A : Type 0} → (xs : List A) (i : ℕ) (x : A) → remove (set xs i x) i ≡ remove xs i
remove_put xs i x = ap (λ l. l ++ drop (suc i) (set xs i x)) (take-set xs i x) ∙ ap (λ l. take i xs ++ l) (drop-set-lt (suc i) xs i x (omega arith))

if_true : {A : Type 0} → (b : Bool) (x y : A) → b ≡ true → cond b x y ≡ x
if_true true x y e = refl
if_true false x y e = let odd : false ≡ true = e in cc

if_false : {A : Type 0} → (b : Bool) (x y : A) → b ≡ false → cond b x y ≡ y
if_false false x y e = refl
if_false true x y e = let odd : true ≡ false = e in cc

module _ (place : Place) (moment : Option ℕ) (i : ℕ) (pumped : Pumped) (a b : DeskView) (f g : ℕ) (d e : Option (List ℕ)) (xs ys zs : List SeatView) (was next : SeatView) where
  module _ (h : i < length xs) (same : ys ≡ xs) (at : was ≡ get_or ys i was) (made : PumpMade place was.live next.live moment pumped (seat_sides a was) (seat_sides b next) d e f g) where
    there : slice_get xs i ≡ Some was
    there = seat_at xs i was h (subst (λ (l : List SeatView). was ≡ get_or l i was) same at)

    pub seat_over : is_over pumped ≡ true → zs ≡ remove (set ys i next) i → SeatPumped place moment i pumped (record { desks = a; faults = f; drawn = d; seats = xs }) (record { desks = b; faults = g; drawn = e; seats = zs })
    seat_over over is = record {
      was = was;
      is = there;
      next = next;
      made = made;
      seats = is ∙ (remove_put ys i next ∙ (ap (λ l. remove l i) same ∙ sym (if_true (is_over pumped) (remove xs i) (set xs i next) over)));
    }

    pub seat_stays : is_over pumped ≡ false → SeatPumped place moment i pumped (record { desks = a; faults = f; drawn = d; seats = xs }) (record { desks = b; faults = g; drawn = e; seats = set ys i next })
    seat_stays on = record {
      was = was;
      is = there;
      next = next;
      made = made;
      seats = ap (λ l. set l i next) same ∙ sym (if_false (is_over pumped) (remove xs i) (set xs i next) on);
    }

-- ---- pumps

-- some pumps were made, and there is still a session at that place
pub record PumpedSo (place : Place) (moment : Option ℕ) (i : ℕ) (x y : Served) : Type 0 where
  pub count : ℕ
  pub pumps : PumpsMade place moment count x y
  pub within : i < length y.seats

module _ (place : Place) (moment : Option ℕ) where
  pub pumped_none : (i : ℕ) (x : Served) → i < length x.seats → PumpedSo place moment i x x
  pumped_none i x h = record { count = 0; pumps = refl; within = h }

  pub pumped_more : (i : ℕ) (x y z : Served) (pumped : Pumped) → PumpedSo place moment i x y → SeatPumped place moment i pumped y z → (n : ℕ) × PumpsMade place moment n x z
  pumped_more i x y z pumped so h = (suc so.count, (y, i, pumped, so.pumps, h))

  -- a session that moved keeps its place
  pub pumped_on : (i : ℕ) (x y z : Served) → PumpedSo place moment i x y → SeatPumped place moment i Moved y z → PumpedSo place moment i x z
  pumped_on i x y z so h = record {
    count = suc so.count;
    pumps = (y, i, Moved, so.pumps, h);
    within = omega (arith, so.within, ap length h.seats, length-set y.seats i h.next);
  }

  pumps_more : (m n : ℕ) (x y z : Served) → PumpsMade place moment m x y → PumpsMade place moment n y z → (k : ℕ) × PumpsMade place moment k x z
  pumps_more m zero x y z f g = (m, subst (λ (w : Served). PumpsMade place moment m x w) (sym g) f)
  pumps_more m (suc n) x y z f g =
      let so = pumps_more m n x y g.0 f g.3 in
      (suc so.0, (g.0, g.1, g.2, so.1, g.4))

  pub pumps_on : (x y z : Served) → (m : ℕ) × PumpsMade place moment m x y → (n : ℕ) × PumpsMade place moment n y z → (k : ℕ) × PumpsMade place moment k x z
  pumps_on x y z f g = pumps_more f.0 g.0 x y z f.1 g.1

  -- ---- rounds

  pub rounds_more : (given between middle after : ℕ) (x y z : Served) → (n : ℕ) × RoundsMade place moment n given between x y → middle ≡ between → RoundMade place moment middle after y z → (n : ℕ) × RoundsMade place moment n given after x z
  rounds_more given between middle after x y z f e h = (suc f.0, (between, y, f.1, subst (λ (m : ℕ). RoundMade place moment m after y z) e h))
