use Rattle.std.proofs.Common.{◌-◌, length, drop, length-take, length-drop, arith, ◌∙◌}
use Rattle.http_bytes.proofs.Flow.{writes_on, front_stays, Keeps-then}
use Rattle.http_bytes.proofs.write.write_all.Goals as goal

pub loop-at-preserved : goal.loop-at-preserved
loop-at-preserved g c =
    let i = c.loop-at.invariant in
    let e = c.in-Ok.ensures in
    record {
      inside = omega (arith, i.inside, e.bytes.1, length-take (length c.args.bytes.now - c.loop-at.at) (drop c.loop-at.at c.args.bytes.now), length-drop c.loop-at.at c.args.bytes.now);
      written = writes_on _ _ _ c.loop-at.at c.in-Ok.count c.args.bytes.now i.inside e.bytes.1 i.written e.bytes.2;
      left = Keeps-then _ _ _ i.left e.kept;
      faults = e.cause ∙ i.faults;
    }

pub returns-in-Err-clause-bytes : goal.returns-in-Err-clause-bytes
returns-in-Err-clause-bytes g c = front_stays _ _ _ c.loop-at.at c.args.bytes.now c.loop-at.invariant.written c.in-Err.ensures.bytes
