use Rattle.std.proofs.Common.{arith}
use Rattle.node_control.proofs.WorkLemmas.{reported_all, reported_more, reported_none}
use Rattle.node_control.proofs.works.report_all.Goals as goal

pub loop-shard-init : goal.loop-shard-init
loop-shard-init g c = reported_none c.no_counts-all.result _ c.no_counts-all.ensures

pub report-requires : goal.report-requires
report-requires g c = omega (arith, c.loop-shard.invariant.up_to.does.calls.same.size, c.count-shard-end.ensures.value)

pub loop-shard-preserved : goal.loop-shard-preserved
loop-shard-preserved g c =
    let r = c.report.ensures in
    reported_more c.loop-shard.shard c.loop-shard.all c.report.result _ _ _ _ r.reported.0 c.loop-shard.invariant r.reported.1 r.reported.2 r.none_waits c.counts_plus-all.ensures

pub returns-clause-reported : goal.returns-clause-reported
returns-clause-reported g c = reported_all c.loop-shard.shard _ c.loop-shard.all _ _ (omega (arith, c.count-shard-end.ensures.value)) c.loop-shard.invariant

pub returns-clause-none_waits : goal.returns-clause-none_waits
returns-clause-none_waits g c = c.loop-shard.invariant.none_waits
