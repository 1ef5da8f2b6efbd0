use Rattle.std.proofs.Common.{ℕ, List, ◌++◌, take, Option}
use Rattle.push_model.specs.DeskViews.{DeskView}
use Rattle.autopush_main.specs.Known.{NoFault}
use Rattle.node_control.specs.Steps.{Goes}
use Rattle.node_control.proofs.bytes.take_bytes.Given as goal

abbrev pub invariant-loop-byte : goal.invariant-loop-byte
invariant-loop-byte g l =
    record {
      goes : (a : DeskView) (held : Option (List ℕ)) (read : List ℕ) → Goes a (g.D.Desks.view l.initial.desks) held (g.K.Sink.written l.initial.output) read l.initial.front
          → Goes a (g.D.Desks.view l.desks) held (g.K.Sink.written l.output) (read ++ take l.byte-index l.bytes) l.front;
      no_fault : NoFault (g.K.Sink.faults l.initial.output) (g.K.Sink.faults l.output) (g.K.Sink.lulls l.initial.output) (g.K.Sink.lulls l.output);
    }
