use Rattle.std.proofs.Common.{◌≤◌, ◌-◌}
use Rattle.push_model.specs.DeskViews.{IsHonest}
use Rattle.http_front.specs.OpNumbers.{IsAbove}
use Rattle.http_front.specs.Served.{scene}
use Rattle.http_front.proofs.ServeLemmas.{ServedSoFar}
use Rattle.http_front.proofs.serving.serve_http.Given as goal

abbrev pub invariant-serving : goal.invariant-serving
invariant-serving g l = record {
  so_far : ServedSoFar (g.C.Clock.moment l.clock) l.count l.rest (scene g.D.Desks.view g.L.NodeLink.faults g.W.Wire.left g.W.Wire.written l.initial.desks l.initial.link l.initial.wire l.initial.ops)
      (scene g.D.Desks.view g.L.NodeLink.faults g.W.Wire.left g.W.Wire.written l.desks l.link l.wire l.ops);
  losses : g.L.NodeLink.faults l.initial.link ≤ g.L.NodeLink.faults l.link;
  faults : g.W.Wire.faults l.initial.wire ≤ g.W.Wire.faults l.wire;
  honest : IsHonest (g.D.Desks.view l.desks);
  above : IsAbove (g.D.Desks.view l.desks) l.ops.k;
}

abbrev pub decreases-serving : goal.decreases-serving
decreases-serving g l = 1000 - l.count
