use Rattle.push_exchange.proofs.Seen.{kept_after}
use Rattle.push_exchange.proofs.board.ShardBoard.call.Goals as goal

pub returns-clause-kept : goal.returns-clause-kept
returns-clause-kept g c = kept_after c.pass.inside.pass c.call.new.pass c.args.pass.now c.pass.view_is c.call.ensures.pass.0.3 c.call.new.pass.sound c.requires.opened
