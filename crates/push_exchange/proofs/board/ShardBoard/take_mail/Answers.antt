use Rattle.push_exchange.proofs.Seen.{kept_after}
use Rattle.push_exchange.proofs.board.ShardBoard.take_mail.Goals as goal

pub returns-clause-kept : goal.returns-clause-kept
returns-clause-kept c = kept_after c.pass.inside.pass c.take_mail.new.pass c.args.pass.now c.pass.view_is c.take_mail.ensures.pass.0.3 c.take_mail.new.pass.sound c.requires.opened
