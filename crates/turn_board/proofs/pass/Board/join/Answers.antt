use Rattle.turn_board.proofs.Rests.{joined_rests, joined_counts, joined_parts}
use Rattle.turn_board.proofs.pass.Board.join.Goals as goal

pub invariant_of-pass : goal.invariant_of-pass
invariant_of-pass g c =
    let e = c.join.ensures in
    let a = c.args.pass.now in
    let b = c.args.other in
    record {
      resting = joined_rests a.number a.seat.me b.seat.me c.join.new.seat.me a.resting e.view;
      sound = ∣ e.sound ∣₁;
      counted = joined_counts a.joined b.joined a.seat.me b.seat.me c.join.new.seat.me e.view a.counted.0 b.counted.0 e.few;
    }

pub returns-clause-parts : goal.returns-clause-parts
returns-clause-parts g c = joined_parts c.args.pass.now.seat.me c.args.other.seat.me c.join.new.seat.me c.join.ensures.view c.join.ensures.parts
