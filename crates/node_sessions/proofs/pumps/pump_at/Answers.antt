use Rattle.std.proofs.Common.{sym, ◌∙◌}
use Rattle.node_sessions.proofs.RoundLemmas.{seat_over, seat_stays}
use Rattle.node_sessions.proofs.pumps.pump_at.Goals as goal

pub returns-then-is_over : goal.returns-then-is_over
returns-then-is_over g c =
    seat_over _ _ c.args.i c.pump_seat-pumped.result _ _ _ _ _ _ c.args.sessions.now c.sessions.inside.seats.items c.remove-over.new.self.items c.index_mut-seat.result.now c.pump_seat-pumped.new.seat
    c.requires c.sessions.view_is c.index_mut-seat.ensures.value c.pump_seat-pumped.ensures (sym c.is_over.ensures ∙ c.if-is_over.true) c.remove-over.ensures.items

pub returns : goal.returns
returns g c =
    seat_stays _ _ c.args.i c.pump_seat-pumped.result _ _ _ _ _ _ c.args.sessions.now c.sessions.inside.seats.items c.sessions.inside.seats.items c.index_mut-seat.result.now c.pump_seat-pumped.new.seat
    c.requires c.sessions.view_is c.index_mut-seat.ensures.value c.pump_seat-pumped.ensures (sym c.is_over.ensures ∙ c.if-is_over.false)
