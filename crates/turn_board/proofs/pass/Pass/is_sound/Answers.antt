use mathlib.Core.Logic.{∥∥₁_map}
use Rattle.turn_board.proofs.TurnLemmas.{first_of}
use Rattle.turn_board.proofs.pass.Pass.is_sound.Goals as goal

pub returns : goal.returns
returns g c =
    let p = c.args.self.now in
    let f = first_of g.T.Object.run g.T.Object.proper p.seat.me.0.first p.resting.first in
    ∥∥₁_map p.sound (λ h. record { origin = f.0; first = f.1; legal = h.legal f.0 f.1; each_proper = h.each_proper; signs = p.resting.numbered; mail = h.mail })
