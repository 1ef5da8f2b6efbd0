use Rattle.autopush_main.specs.Known.{NoFault}
use Rattle.node_control.proofs.ByteLemmas.{Running}
use Rattle.node_control.proofs.controls.run_control.Given as goal

abbrev pub invariant-loop : goal.invariant-loop
invariant-loop g l =
    record {
      running : Running (g.I.Source.left l.initial.input) (g.I.Source.left l.input) (g.K.Sink.written l.initial.output) (g.K.Sink.written l.output) (g.D.Desks.view l.initial.desks) (g.D.Desks.view l.desks) l.front;
      source : NoFault (g.I.Source.faults l.initial.input) (g.I.Source.faults l.input) (g.I.Source.lulls l.initial.input) (g.I.Source.lulls l.input);
      sink : NoFault (g.K.Sink.faults l.initial.output) (g.K.Sink.faults l.output) (g.K.Sink.lulls l.initial.output) (g.K.Sink.lulls l.output);
    }
