use Rattle.autopush_main.proofs.Causes.{NoFault-then, no_call}
use Rattle.node_control.proofs.ByteLemmas.{running_ends, running_none, running_on, running_over}
use Rattle.node_control.proofs.FaultLemmas.{input_then}
use Rattle.node_control.proofs.controls.run_control.Goals as goal

pub loop-init : goal.loop-init
loop-init g c = record { running = running_none _ _ _ _ c.new-front.ensures; source = no_call _ _; sink = no_call _ _ }

pub returns-in-Some-take_bytes-clause-controls : goal.returns-in-Some-take_bytes-clause-controls
returns-in-Some-take_bytes-clause-controls g c =
    running_ends c.in-Some-take_bytes.end _ _ _ _ _ _ _ _ _ _ _ _ c.loop.invariant.running c.in-Bytes.ensures.bytes.2 c.in-Some-take_bytes.ensures.takes

pub returns-in-Some-take_bytes-clause-source : goal.returns-in-Some-take_bytes-clause-source
returns-in-Some-take_bytes-clause-source g c =
    let i = c.loop.invariant in
    input_then c.in-Some-take_bytes.end _ _ _ _ _ _ _ _ _ _ (c.in-Some-take_bytes.ensures.takes _ _ i.running.read i.running.goes)
    (NoFault-then _ _ _ _ _ _ i.source c.in-Bytes.ensures.cause)

pub loop-preserved : goal.loop-preserved
loop-preserved g c =
    let i = c.loop.invariant in
    record {
      running = running_on _ _ _ _ _ _ _ _ _ _ _ _ i.running c.in-Bytes.ensures.bytes.2 c.in_default.ensures.takes;
      source = NoFault-then _ _ _ _ _ _ i.source c.in-Bytes.ensures.cause;
      sink = NoFault-then _ _ _ _ _ _ i.sink c.in_default.ensures.cause;
    }

pub returns-in-End-clause-controls : goal.returns-in-End-clause-controls
returns-in-End-clause-controls g c =
    running_over c.finish.result _ _ _ _ _ _ _ _ _ _ c.loop.invariant.running c.in-End.ensures.bytes.0 c.in-End.ensures.bytes.1 c.finish.ensures.controls
