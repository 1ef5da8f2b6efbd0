use Rattle.std.proofs.Common.{ap}
use mathlib.Core.Logic.{∥∥₁_map}
use Rattle.turn_board.specs.Plays.{SeatState}
use Rattle.turn_board.proofs.Rests.{rests_count, still_rests, still_counts}
use Rattle.turn_board.proofs.Sound.{sound_same}
use Rattle.turn_board.proofs.pass.Board.alone.Goals as goal

pub invariant_of-pass : goal.invariant_of-pass
invariant_of-pass g c =
    let p = c.args.pass.now in
    let m = c.count-drawn.new.seat.me in
    let is = c.count-drawn.ensures.view.0 in
    let rest = rests_count p.number c.count-drawn.result p.seat.me m p.resting is in
    let M : Type 0 = SeatState g.row.T.Denot g.row.T-Step.Denot g.row.T-Reply.Denot in
    record {
      resting = still_rests p.number p.seat.me m p.resting rest;
      sound = ∥∥₁_map p.sound (λ h. sound_same g.T.Object.run g.T.Object.proper p.seat.me m h rest.first (ap (λ (x : M). x.0.seen) is) (ap (λ (x : M). x.0.mail) is));
      counted = still_counts p.joined p.seat.me m p.counted rest;
    }
