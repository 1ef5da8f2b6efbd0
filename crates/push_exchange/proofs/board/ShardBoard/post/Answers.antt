use Rattle.push_exchange.proofs.Seen.{kept_after}
use Rattle.push_exchange.proofs.board.ShardBoard.post.Goals as goal

pub returns-clause-kept : goal.returns-clause-kept
returns-clause-kept c = kept_after c.pass.inside.pass c.post.new.pass c.args.pass.now c.pass.view_is c.post.ensures.pass.0.3 c.post.new.pass.sound c.requires.opened
