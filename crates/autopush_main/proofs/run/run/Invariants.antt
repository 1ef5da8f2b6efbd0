use Rattle.std.proofs.Common.{◌≤◌}
use Rattle.autopush_main.specs.Known.{NoFault}
use Rattle.autopush_main.proofs.Progress.{Progress}
use Rattle.autopush_main.proofs.run.run.Given as goal

abbrev pub invariant-loop-count : goal.invariant-loop-count
invariant-loop-count g l =
    record {
      progress : Progress (g.I.Source.left l.initial.input) (g.I.Source.left l.input) l.pending l.count l.shard (g.K.Sink.written l.initial.output) (g.K.Sink.written l.output);
      early : l.count ≤ 1000000;
      source : NoFault (g.I.Source.faults l.initial.input) (g.I.Source.faults l.input) (g.I.Source.lulls l.initial.input) (g.I.Source.lulls l.input);
      sink : NoFault (g.K.Sink.faults l.initial.output) (g.K.Sink.faults l.output) (g.K.Sink.lulls l.initial.output) (g.K.Sink.lulls l.output);
    }
