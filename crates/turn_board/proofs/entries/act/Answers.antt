use Rattle.std.proofs.Common.{subst, sym, ap, ◌∙◌, ◌≡◌, true, IfOk, OnErr}
use Rattle.turn_board.specs.Seats.{Holding}
use Rattle.turn_board.proofs.TurnLemmas.{acted, unmoved}
use Rattle.turn_board.proofs.entries.act.Goals.{in-Ok, in_default}
use Rattle.turn_board.proofs.entries.act.Goals as goal

pub returns-clause-holding : goal.returns-clause-holding
returns-clause-holding g c = elim c.match-answer.branch [
  | in-Ok w ↦
      let did = subst (λ (x : _). IfOk x (λ r. g.T.Object.run c.args.home.now.object c.args.step ≡ (c.step-answer.new.self, r))) w.in-Ok.is c.step-answer.ensures.ok in
      let held = acted g.T.Object.run g.T.Object.proper _ _ c.args.home.now c.step-answer.new.self c.args.by c.args.step c.of-said.result.value w.in-Ok.reply c.requires.holding did c.of-said.ensures (ap (λ (x : _). x.me) w.seat-is ∙ w.add_entry.ensures.view) in
      subst (Holding g.T.Object.run g.T.Object.proper c.match-answer.seat.me) (sym w.home-is) held
  | in_default w ↦
      let kept = subst (λ (x : _). OnErr x ((c.step-answer.new.self ≡ c.args.home.now.object) × (g.T.Object.takes_memory c.args.step ≡ true))) w.in_default.is c.step-answer.ensures.err in
      unmoved g.T.Object.run g.T.Object.proper _ _ c.args.home.now c.match-answer.home c.step-answer.new.self (ap (λ (x : _). x.me) w.seat-is) w.home-is kept.0 c.requires.holding
]
