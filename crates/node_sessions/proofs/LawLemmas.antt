-- What follows from a loop's rounds.
use Rattle.std.proofs.Common.{◌≡◌, inl, inr, ◌≤◌, ◌<◌, ◌%◌, ◌^◌, ◌==◌, ◌&&◌, ℕ, zero, suc, max, Bool, true, false, cond, List, [], ◌∷◌, ◌++◌, length, set, refl, ap, ◌∙◌, arith, Result, Ok, Err, Option, Some, None}
use Rattle.std.specs.Prelude.{bit_or}
use Rattle.std.specs.Int.{bit_at}
use Rattle.std.specs.List.{remove}
use Rattle.std.proofs.lemmas.Bool.{eq-eqb}
use Rattle.std.proofs.lemmas.List.{length-map, length-set, length_push}
use Rattle.std.proofs.lemmas.List.Edits.{length-remove}
use Rattle.std.proofs.lemmas.Nat.Bits.{bit_at_or, bit_at-pow_same}
use Rattle.std.proofs.lemmas.Option.{slice_get_within}
use Rattle.push_model.specs.SessionKey.{SessionKey}
use Rattle.push_model.specs.DeskViews.{DeskView}
use Rattle.push_model.specs.MailWords.{bit_of}
use Rattle.push_outside.specs.declared.chat.Heard.{Heard}
use Rattle.session_drive.specs.Runs.{Sides}
use Rattle.session_drive.specs.Shards.{shard_of}
use Rattle.session_drive.specs.declared.ends.SessionEnd.{SessionEnd}
use Rattle.session_drive.specs.declared.turns.Turned.{Turned}
use Rattle.session_front.specs.Pumps.{PumpEnds, is_idle, is_not_yet}
use Rattle.session_front.specs.declared.live.Live.{Live}
use Rattle.session_front.specs.declared.live.Place.{Place}
use Rattle.session_front.specs.declared.live.Pumped.TheVariants.{Moved, Idle, Done}
use Rattle.node_sessions.specs.Seats.{SeatView, has_bit, is_named, new_seat}
use Rattle.node_sessions.specs.Accepts.{AcceptMade}
use Rattle.node_sessions.specs.Mail.{MailRead}
use Rattle.node_sessions.specs.Pumps.{Served, PumpsMade, is_over}
use Rattle.node_sessions.specs.Loops.{RoundMade, RoundsMade}

-- ---- bits that were posted

most_one : (m n : ℕ) → m < 2 → n ≡ 1 → max m n ≡ 1
most_one m n h e = omega arith

bit_found : (n k : ℕ) → bit_at (bit_or n (2 ^ k)) k ≡ 1
bit_found n k = bit_at_or n (2 ^ k) k ∙ most_one (bit_at n k) (bit_at (2 ^ k) k) (omega arith) (bit_at-pow_same k)

both_true : (a b : Bool) → a ≡ true → b ≡ true → (a && b) ≡ true
both_true true b e f = f
both_true false b e f = cc

pub post_names : (size bits : ℕ) (s : SessionKey) → is_named size (shard_of s.uaid size) (bit_or bits (bit_of s.uaid)) (Some s) ≡ true
post_names size bits s =
    both_true (shard_of s.uaid size == shard_of s.uaid size) (has_bit (bit_or bits (bit_of s.uaid)) (s.uaid.0 % 64))
    (eq-eqb (shard_of s.uaid size) (shard_of s.uaid size) refl)
    (ap (λ m. m == 1) (bit_found bits (s.uaid.0 % 64)))

-- ---- sessions that are over

not_done : (idle : Bool) (end : SessionEnd) → Done end ≡ cond idle Idle Moved → ⊥
not_done true end e = cc
not_done false end e = cc

pub over_detached : (outcome : Result (Option Turned) SessionEnd) (heard : Heard) (t : Option SessionKey) (due : Bool) (end : SessionEnd) (live : Live) (a b : Sides) (before after : ℕ) → PumpEnds outcome heard t due (Done end) live a b before after → live.s ≡ None
over_detached (Ok turned) heard t due end live a b before after h = absurd (not_done (is_not_yet heard && is_idle turned) end h.0)
over_detached (Err e) heard t due end live a b before after h = h.1

-- ---- how many sessions there are

one_begins : (began : Bool) (xs ys : List SeatView) → length xs < 256 → ys ≡ cond began (xs ++ new_seat ∷ []) xs → length ys ≤ 256
one_begins true xs ys h e = omega (arith, ap length e, length_push xs new_seat)
one_begins false xs ys h e = omega (arith, ap length e)

accept_keeps : (given after : ℕ) (xs ys : List SeatView) → length xs ≤ 256 → AcceptMade given after xs ys → length ys ≤ 256
accept_keeps given after xs ys h (inl e) = omega (arith, ap length e.1)
accept_keeps given after xs ys h (inr w) = one_begins w.began xs ys w.room w.seats

mail_keeps : (node n : ℕ) (a c : DeskView) (xs zs : List SeatView) → MailRead node n a c xs zs → length zs ≡ length xs
mail_keeps node zero a c xs zs h = ap length h.1
mail_keeps node (suc k) a c xs zs h = ap length h.3.seats ∙ (length-map h.1 _ ∙ mail_keeps node k a h.0 xs h.1 h.2)

one_leaves : (over : Bool) (xs ys : List SeatView) (i : ℕ) (next : SeatView) → i < length xs → ys ≡ cond over (remove xs i) (set xs i next) → length ys ≤ length xs
one_leaves true xs ys i next h e = omega (arith, ap length e, length-remove xs i h)
one_leaves false xs ys i next h e = omega (arith, ap length e, length-set xs i next)

pumps_keep : (place : Place) (moment : Option ℕ) (n : ℕ) (x z : Served) → PumpsMade place moment n x z → length z.seats ≤ length x.seats
pumps_keep place moment zero x z h = omega (arith, ap (λ (w : Served). length w.seats) h)
pumps_keep place moment (suc n) x z h =
    let few : length h.0.seats ≤ length x.seats = pumps_keep place moment n x h.0 h.3 in
    let less : length z.seats ≤ length h.0.seats = one_leaves (is_over h.2) h.0.seats z.seats h.1 h.4.next (slice_get_within h.0.seats h.1 h.4.was h.4.is) h.4.seats in
    omega arith

round_keeps : (place : Place) (moment : Option ℕ) (given after : ℕ) (x z : Served) → length x.seats ≤ 256 → RoundMade place moment given after x z → length z.seats ≤ 256
round_keeps place moment given after x z low h =
    let met : length h.met ≤ 256 = accept_keeps given after x.seats h.met low h.accept in
    let heard : length h.heard ≡ length h.met = mail_keeps _ _ _ _ _ _ h.mail in
    let less : length z.seats ≤ length h.heard = pumps_keep place moment h.count _ z h.pumps in
    omega arith

pub rounds_keep : (place : Place) (moment : Option ℕ) (n given after : ℕ) (x z : Served) → length x.seats ≤ 256 → RoundsMade place moment n given after x z → length z.seats ≤ 256
rounds_keep place moment zero given after x z low h = omega (arith, ap (λ (w : Served). length w.seats) h.1)
rounds_keep place moment (suc n) given after x z low h =
    round_keeps place moment h.0 after h.1 z (rounds_keep place moment n given h.0 x h.1 low h.2) h.3
