use Rattle.std.proofs.Common.{rules}
use Rattle.node_loops.specs.Together.{raised}
use Rattle.serve_run.proofs.doors.listen_all.Goals as goal

pub loop-k-init : goal.loop-k-init
unfolding raised
loop-k-init g c = search rules

pub loop-k-preserved : goal.loop-k-preserved
unfolding raised
loop-k-preserved g c = (search rules, search rules, search rules)
