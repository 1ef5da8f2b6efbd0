use Rattle.node_sessions.proofs.RoundLemmas.{read_quiet}
use Rattle.node_sessions.proofs.mail.read_shard.Goals as goal

pub returns-in-Quiet : goal.returns-in-Quiet
returns-in-Quiet g c = read_quiet c.args.node c.args.shard _ _ _ c.in-Quiet.ensures.mail.0 c.in-Quiet.ensures.mail.1 c.in-Quiet.ensures.calls c.in-Quiet.ensures.mail.2 c.in-Quiet.ensures.mail.3
