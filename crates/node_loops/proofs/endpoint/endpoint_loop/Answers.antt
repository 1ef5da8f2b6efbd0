use Rattle.std.proofs.Common.{rules, refl, suc}
use Rattle.node_loops.specs.Together.{raised}
use Rattle.node_loops.proofs.endpoint.endpoint_loop.Goals as goal

pub loop-init : goal.loop-init
unfolding raised
loop-init g c = record { served = (0, refl, refl); goes_on = g.met.E.Each.none_served c.args.each }

pub loop-preserved-in-Got : goal.loop-preserved-in-Got
unfolding raised
loop-preserved-in-Got g c = record {
  served = (suc c.loop.invariant.served.0, search rules, search rules);
  goes_on = g.met.E.Each.more_served _ _ _ c.loop.invariant.goes_on c.serve.ensures.goes_on;
}
