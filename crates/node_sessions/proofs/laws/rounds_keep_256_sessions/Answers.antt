use Rattle.node_sessions.proofs.LawLemmas.{rounds_keep}
use Rattle.node_sessions.proofs.laws.rounds_keep_256_sessions.Goals as goal

pub returns : goal.returns
returns c = rounds_keep
