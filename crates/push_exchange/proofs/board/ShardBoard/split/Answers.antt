use Rattle.push_exchange.proofs.Seen.{kept_after}
use Rattle.push_exchange.proofs.board.ShardBoard.split.Goals as goal

pub returns-clause-kept : goal.returns-clause-kept
returns-clause-kept g c =
    let p = c.pass.inside.pass in
    let s = c.split-pass in (
      kept_after p s.new.pass c.args.pass.now c.pass.view_is s.ensures.pass.0.3 s.new.pass.sound c.requires.opened,
      kept_after p s.result c.args.pass.now c.pass.view_is s.ensures.new.1 s.result.sound c.requires.opened,
    )
