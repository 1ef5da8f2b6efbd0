use Rattle.std.proofs.Common.{sym, ap, ◌∙◌}
use Rattle.push_exchange.specs.PassViews.{PassView}
use Rattle.push_exchange.proofs.Seen.{joined_after, kept_after, one_board}
use Rattle.push_exchange.proofs.board.ShardBoard.join.Goals as goal

pub returns-clause-joined : goal.returns-clause-joined
returns-clause-joined c =
    let p = c.pass.inside.pass in
    let q = c.join.new.pass in
    let e = c.join.ensures in
    let own = one_board p.seat.table_id c.self.inside.board.table.shared.table_id (ap (λ (v : PassView). v.board) c.pass.view_is ∙ c.requires.board.0 ∙ sym c.self.view_is) in
    joined_after p q c.args.pass.now c.pass.view_is c.other.inside.pass c.args.other c.other.view_is (e.pass.0 ∙ sym own) e.pass.1 e.pass.2 e.numbers e.seen e.mail e.parts

pub returns-clause-kept : goal.returns-clause-kept
returns-clause-kept c = kept_after c.pass.inside.pass c.join.new.pass c.args.pass.now c.pass.view_is c.join.ensures.pass.2 c.join.new.pass.sound c.requires.opened
