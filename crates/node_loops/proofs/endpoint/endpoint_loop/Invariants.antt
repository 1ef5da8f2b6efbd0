use Rattle.node_loops.specs.Together.{RoseTogether}
use Rattle.node_loops.proofs.endpoint.endpoint_loop.Given as goal

abbrev pub invariant-loop : goal.invariant-loop
invariant-loop g l = record {
  served : RoseTogether (g.L.Listener.given l.fn.listener) (g.L.Listener.given l.listener) (g.E.Each.served l.fn.each) (g.E.Each.served l.each);
  goes_on : g.E.Each.goes_on l.fn.each l.each;
}
