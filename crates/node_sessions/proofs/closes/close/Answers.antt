use Rattle.std.proofs.Common.{◌≡◌, ap, ◌∙◌}
use Rattle.node_sessions.specs.Seats.{SeatView}
use Rattle.node_sessions.proofs.CloseLemmas.{closed_one}
use Rattle.node_sessions.proofs.closes.close.Goals as goal

pub returns : goal.returns
returns g c =
    let same : c.seat.inside.live.s ≡ c.args.seat.live.s = ap (λ (v : SeatView). v.live.s) c.seat.view_is in
    let marks : c.deref_mut.result.now ≡ c.args.seat.marks = c.deref_mut.ensures.value ∙ ap (λ (v : SeatView). v.marks) c.seat.view_is in
    closed_one c.args.seat c.seat.inside.live.s c.deref_mut.result.now c.finish.new.chat _ _ _ _ same marks c.shut_attached.ensures c.finish.ensures
