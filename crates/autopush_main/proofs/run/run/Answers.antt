use Rattle.std.proofs.Common.{arith}
use Rattle.autopush_main.proofs.Causes.{NoFault-then, source_then, sink_then}
use Rattle.autopush_main.proofs.Progress.{goes_on, ends_so, headlines}
use Rattle.autopush_main.proofs.run.run.Goals as goal

pub returns-in-Some-clause-replays : goal.returns-in-Some-clause-replays
returns-in-Some-clause-replays g c =
    let i = c.loop-count.invariant in
    ends_so (headlines c.steps_make_legal_histories.ensures.headline c.reports_say_that_none_waits.ensures) c.in-Some.end _ _ _ _ _ _ _ _ _ _ _ i.early i.progress c.in-Some.ensures.turns

pub loop-count-preserved : goal.loop-count-preserved
loop-count-preserved g c =
    let i = c.loop-count.invariant in
    let e = c.in_default.ensures in
    record {
      progress = goes_on _ _ _ _ _ c.loop-count.count _ _ _ _ _ i.progress e.turns.1;
      early = omega (arith, e.turns.0);
      source = NoFault-then _ _ _ _ _ _ i.source e.source;
      sink = NoFault-then _ _ _ _ _ _ i.sink e.sink;
    }

pub returns-in-Some-clause-source : goal.returns-in-Some-clause-source
returns-in-Some-clause-source g c = source_then c.in-Some.end _ _ _ _ _ _ c.loop-count.invariant.source c.in-Some.ensures.source

pub returns-in-Some-clause-sink : goal.returns-in-Some-clause-sink
returns-in-Some-clause-sink g c = sink_then c.in-Some.end _ _ _ _ _ _ c.loop-count.invariant.sink c.in-Some.ensures.sink
