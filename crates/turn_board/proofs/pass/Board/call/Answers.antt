use Rattle.std.proofs.Common.{sym, ap, ◌∙◌}
use mathlib.Core.Logic.{∥∥₁_map}
use Rattle.push_model.specs.Histories.{entry}
use Rattle.turn_board.proofs.TurnLemmas.{turned, holding, called, Called, rests_called, unseen, IfOk-both}
use Rattle.turn_board.proofs.Rests.{still_rests, still_counts}
use Rattle.turn_board.proofs.Sound.{sound_call}
use Rattle.turn_board.proofs.pass.Board.call.Goals as goal

pub act-answer-requires-clause-holding : goal.act-answer-requires-clause-holding
act-answer-requires-clause-holding g c =
    let d = c.draw_ticket-ticket.ensures.ticket in
    let t = turned g.T.Object.run g.T.Object.proper d.0 c.args.pass.now.seat.me c.draw_ticket-ticket.new.seat.me c.begin_turn-home.new.seat.me c.begin_turn-home.result d.2 c.begin_turn-home.ensures.turn in
    holding g.T.Object.run g.T.Object.proper c.args.pass.now.seat.me c.begin_turn-home.new.seat.me c.begin_turn-home.result c.with_room-home.result t c.args.pass.now.resting.first c.with_room-home.ensures.0

pub returns-clause-own : goal.returns-clause-own
returns-clause-own g c =
    let d = c.draw_ticket-ticket.ensures.ticket in
    let p = c.args.pass.now in
    let t = turned g.T.Object.run g.T.Object.proper d.0 p.seat.me c.draw_ticket-ticket.new.seat.me c.begin_turn-home.new.seat.me c.begin_turn-home.result d.2 c.begin_turn-home.ensures.turn in
    IfOk-both c.act-answer.result _ _ _
    (λ r ok did. (called g.T.Object.run g.T.Object.proper p.seat.me c.begin_turn-home.new.seat.me c.act-answer.new.seat.me c.end_turn.new.seat.me c.begin_turn-home.result c.act-answer.new.home.object p.number c.args.step r t p.resting.numbered c.requires.proper
    (ap (λ h. g.T.Object.run h.object c.args.step) (sym c.with_room-home.ensures.0) ∙ did) ok c.end_turn.ensures.view).own)
    c.act-answer.ensures.ok c.act-answer.ensures.reply

pub returns-clause-seen : goal.returns-clause-seen
returns-clause-seen g c =
    let d = c.draw_ticket-ticket.ensures.ticket in
    let p = c.args.pass.now in
    let t = turned g.T.Object.run g.T.Object.proper d.0 p.seat.me c.draw_ticket-ticket.new.seat.me c.begin_turn-home.new.seat.me c.begin_turn-home.result d.2 c.begin_turn-home.ensures.turn in
    IfOk-both c.act-answer.result _ _ _
    (λ r ok did. let z : Called g.T.Object.run g.T.Object.proper p.seat.me (entry p.number c.args.step r) c.end_turn.new.seat.me = called g.T.Object.run g.T.Object.proper p.seat.me c.begin_turn-home.new.seat.me c.act-answer.new.seat.me c.end_turn.new.seat.me c.begin_turn-home.result c.act-answer.new.home.object p.number c.args.step r t p.resting.numbered c.requires.proper
    (ap (λ h. g.T.Object.run h.object c.args.step) (sym c.with_room-home.ensures.0) ∙ did) ok c.end_turn.ensures.view in z.seen)
    c.act-answer.ensures.ok c.act-answer.ensures.reply

pub returns-clause-legal : goal.returns-clause-legal
returns-clause-legal g c =
    let d = c.draw_ticket-ticket.ensures.ticket in
    let p = c.args.pass.now in
    let t = turned g.T.Object.run g.T.Object.proper d.0 p.seat.me c.draw_ticket-ticket.new.seat.me c.begin_turn-home.new.seat.me c.begin_turn-home.result d.2 c.begin_turn-home.ensures.turn in
    IfOk-both c.act-answer.result _ _ _
    (λ r ok did. let z : Called g.T.Object.run g.T.Object.proper p.seat.me (entry p.number c.args.step r) c.end_turn.new.seat.me = called g.T.Object.run g.T.Object.proper p.seat.me c.begin_turn-home.new.seat.me c.act-answer.new.seat.me c.end_turn.new.seat.me c.begin_turn-home.result c.act-answer.new.home.object p.number c.args.step r t p.resting.numbered c.requires.proper
    (ap (λ h. g.T.Object.run h.object c.args.step) (sym c.with_room-home.ensures.0) ∙ did) ok c.end_turn.ensures.view in (z.legal, z.each_proper))
    c.act-answer.ensures.ok c.act-answer.ensures.reply

pub invariant_of-pass : goal.invariant_of-pass
invariant_of-pass g c =
    let run = g.T.Object.run in
    let proper = g.T.Object.proper in
    let d = c.draw_ticket-ticket.ensures.ticket in
    let p = c.args.pass.now in
    let m₂ = c.begin_turn-home.new.seat.me in
    let m₃ = c.act-answer.new.seat.me in
    let m = c.end_turn.new.seat.me in
    let t = turned run proper d.0 p.seat.me c.draw_ticket-ticket.new.seat.me m₂ c.begin_turn-home.result d.2 c.begin_turn-home.ensures.turn in
    let is = c.end_turn.ensures.view in
    let rest = rests_called run proper c.act-answer.result _ (λ r. entry p.number c.args.step r) p.number p.seat.me m₂ m₃ m c.begin_turn-home.result p.resting t c.act-answer.ensures.ok c.act-answer.ensures.err is in
    record {
      resting = still_rests p.number p.seat.me m p.resting rest.0;
      sound = ∥∥₁_map p.sound (λ h. sound_call run proper c.act-answer.result (λ r. entry p.number c.args.step r) p.seat.me m h rest.0.first rest.1
          (IfOk-both c.act-answer.result _ _ _
          (λ r ok did. called run proper p.seat.me m₂ m₃ m c.begin_turn-home.result c.act-answer.new.home.object p.number c.args.step r t p.resting.numbered c.requires.proper (ap (λ h. run h.object c.args.step) (sym c.with_room-home.ensures.0) ∙ did) ok is)
          c.act-answer.ensures.ok c.act-answer.ensures.reply)
          (unseen run proper c.act-answer.result _ p.seat.me m₂ m₃ m c.begin_turn-home.result t c.act-answer.ensures.err is));
      counted = still_counts p.joined p.seat.me m p.counted rest.0;
    }
