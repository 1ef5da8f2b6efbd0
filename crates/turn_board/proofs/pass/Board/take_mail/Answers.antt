use Rattle.std.proofs.Common.{ap}
use mathlib.Core.Logic.{∥∥₁_map}
use Rattle.push_model.specs.declared.mail.MailChange.TheVariants.{Taken}
use Rattle.turn_board.specs.Plays.{SeatState}
use Rattle.turn_board.proofs.Mailing.{posted}
use Rattle.turn_board.proofs.Rests.{rests_mail, still_rests, still_counts}
use Rattle.turn_board.proofs.Sound.{sound_mail}
use Rattle.turn_board.proofs.pass.Board.take_mail.Goals as goal

pub returns-clause-mail : goal.returns-clause-mail
returns-clause-mail g c = (c.take-bits.result, c.of.ensures, posted c.args.slot c.take-bits.result c.args.pass.now.number (Taken c.take-bits.result) c.args.pass.now.seat.me c.take-bits.new.seat.me c.take-bits.ensures.written (λ n e. e))

pub invariant_of-pass : goal.invariant_of-pass
invariant_of-pass g c =
    let p = c.args.pass.now in
    let m = c.take-bits.new.seat.me in
    let is = c.take-bits.ensures.written.2 in
    let rest = rests_mail p.number c.args.slot _ p.seat.me m p.resting is in
    let M : Type 0 = SeatState g.row.T.Denot g.row.T-Step.Denot g.row.T-Reply.Denot in
    record {
      resting = still_rests p.number p.seat.me m p.resting rest;
      sound = ∥∥₁_map p.sound (λ h. sound_mail g.T.Object.run g.T.Object.proper c.args.slot p.number (Taken c.take-bits.result) p.seat.me.0.numbers p.seat.me m h rest.first (ap (λ (x : M). x.0.seen) is) (posted c.args.slot c.take-bits.result c.args.pass.now.number (Taken c.take-bits.result) c.args.pass.now.seat.me c.take-bits.new.seat.me c.take-bits.ensures.written (λ n e. e)));
      counted = still_counts p.joined p.seat.me m p.counted rest;
    }
