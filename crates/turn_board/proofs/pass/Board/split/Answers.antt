use Rattle.std.proofs.Common.{ap, ◌∙◌, arith}
use mathlib.Core.Logic.{∥∥₁_map}
use Rattle.turn_board.specs.Plays.{SeatState}
use Rattle.turn_board.proofs.Rests.{rests_split, given_rests, still_rests, still_counts}
use Rattle.turn_board.proofs.Sound.{sound_same}
use Rattle.turn_board.proofs.pass.Board.split.Goals as goal

pub invariant_of-pass : goal.invariant_of-pass
invariant_of-pass g c =
    let p = c.args.pass.now in
    let n = c.draw_number-number.new.seat.me in
    let m = c.split-seat.new.seat.me in
    let drawn = c.draw_number-number.ensures.view in
    let is = c.split-seat.ensures.view in
    let rest = rests_split p.number c.draw_number-number.result p.seat.me n m p.resting drawn is in
    let M : Type 0 = SeatState g.row.T.Denot g.row.T-Step.Denot g.row.T-Reply.Denot in
    record {
      resting = still_rests p.number p.seat.me m p.resting rest;
      sound = ∥∥₁_map p.sound (λ h. sound_same g.T.Object.run g.T.Object.proper p.seat.me m h rest.first (ap (λ (x : M). x.0.seen) is ∙ ap (λ (x : M). x.0.seen) drawn) (ap (λ (x : M). x.0.mail) is ∙ ap (λ (x : M). x.0.mail) drawn));
      counted = still_counts p.joined p.seat.me m p.counted rest;
    }

pub invariant_of-result : goal.invariant_of-result
invariant_of-result g c =
    let p = c.args.pass.now in
    let n = c.draw_number-number.new.seat.me in
    let m = c.split-seat.result.me in
    let drawn = c.draw_number-number.ensures.view in
    let is = c.split-seat.ensures.given.1 in
    let rest = given_rests p.number c.draw_number-number.result p.seat.me n m p.resting drawn is in
    let M : Type 0 = SeatState g.row.T.Denot g.row.T-Step.Denot g.row.T-Reply.Denot in
    record {
      resting = rest.0;
      sound = ∥∥₁_map p.sound (λ h. sound_same g.T.Object.run g.T.Object.proper p.seat.me m h (ap (λ (x : M). x.0.first) is ∙ ap (λ (x : M). x.0.first) drawn) (ap (λ (x : M). x.0.seen) is ∙ ap (λ (x : M). x.0.seen) drawn) (ap (λ (x : M). x.0.mail) is ∙ ap (λ (x : M). x.0.mail) drawn));
      counted = (rest.1, omega arith);
    }
