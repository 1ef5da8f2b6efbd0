use Rattle.shard_core.proofs.Begun.{token_there}
use Rattle.shard_core.proofs.state.State.begin.Goals as goal

pub begin_numbered-requires-clause-there : goal.begin_numbered-requires-clause-there
begin_numbered-requires-clause-there c = rw (c.uaid-uaid.ensures) (token_there c.args.self.now c.args.token c.in-Some-token_cell.cell.now c.requires c.in-Some-token_cell.ensures)
