use Rattle.push_laws.proofs.Sounds.{reached_waits}
use Rattle.push_laws.proofs.laws.no_row_waits.Goals as goal

pub returns : goal.returns
returns c = reached_waits
