use Rattle.std.proofs.Common.{arith}
use Rattle.http_front.proofs.ServeLemmas.{honest_accounted, honest_cared, next_ends, next_on, none_left, none_yet, served_fault, spent_when, unspent_when}
use Rattle.http_front.proofs.serving.serve_http.Goals as goal

-- ---- where no number is left

pub returns-then-are_spent-clause-served : goal.returns-then-are_spent-clause-served
returns-then-are_spent-clause-served g c = none_left (g.C.Clock.moment c.args.clock.now) _ (spent_when c.are_spent.result c.args.ops.now.k c.if-are_spent.true c.are_spent.ensures)

pub returns-then-are_spent-clause-accounted : goal.returns-then-are_spent-clause-accounted
returns-then-are_spent-clause-accounted g c = honest_accounted (g.D.Desks.view c.args.desks.now) c.requires.honest

pub returns-then-are_spent-clause-cared : goal.returns-then-are_spent-clause-cared
returns-then-are_spent-clause-cared g c = honest_cared (g.D.Desks.view c.args.desks.now) c.requires.honest

-- ---- request after request

pub serving-init : goal.serving-init
serving-init g c = record {
  so_far = none_yet (g.C.Clock.moment c.args.clock.now) c.new-rest.result _ c.new-rest.ensures (unspent_when c.are_spent.result c.args.ops.now.k c.if-are_spent.false c.are_spent.ensures);
  losses = omega arith;
  faults = omega arith;
  honest = c.requires.honest;
  above = c.requires.above;
}

pub serve_next-requires-clause-room : goal.serve_next-requires-clause-room
serve_next-requires-clause-room g c = c.serving.invariant.so_far.room

pub serving-preserved : goal.serving-preserved
serving-preserved g c =
    let i = c.serving.invariant in
    let e = c.in-Ok-None.ensures in
    record {
      so_far = next_on (g.C.Clock.moment c.args.clock.now) c.serving.count c.in-Ok-None.field-0 _ _ _ _ _ c.in-Ok-None.field-0-is (omega (arith, i.losses, e.faults)) e.faults i.so_far e.next;
      losses = omega (arith, i.losses, e.faults);
      faults = omega (arith, i.faults, e.cause);
      honest = e.honest;
      above = e.above;
    }

-- ---- the end after an answer

pub returns-in-Ok-Some-clause-served : goal.returns-in-Ok-Some-clause-served
returns-in-Ok-Some-clause-served g c =
    let e = c.in-Ok-Some.ensures in
    next_ends (g.C.Clock.moment c.args.clock.now) c.serving.count c.in-Ok-Some.field-0 c.in-Ok-Some.end _ _ _ _ _ c.in-Ok-Some.field-0-is e.faults c.serving.invariant.so_far e.next

pub returns-in-Ok-Some-clause-accounted : goal.returns-in-Ok-Some-clause-accounted
returns-in-Ok-Some-clause-accounted g c = honest_accounted (g.D.Desks.view c.serve_next.new.desks) c.in-Ok-Some.ensures.honest

pub returns-in-Ok-Some-clause-cared : goal.returns-in-Ok-Some-clause-cared
returns-in-Ok-Some-clause-cared g c = honest_cared (g.D.Desks.view c.serve_next.new.desks) c.in-Ok-Some.ensures.honest

-- ---- the end by a fault

pub returns-in-Err-clause-served : goal.returns-in-Err-clause-served
returns-in-Err-clause-served g c =
    let e = c.in-Err.ensures in
    served_fault (g.C.Clock.moment c.args.clock.now) c.serving.count c.in-Err.fault _ _ _ _ _ c.serving.invariant.so_far e.faults e.next

pub returns-in-Err-clause-accounted : goal.returns-in-Err-clause-accounted
returns-in-Err-clause-accounted g c = honest_accounted (g.D.Desks.view c.serve_next.new.desks) c.in-Err.ensures.honest

pub returns-in-Err-clause-cared : goal.returns-in-Err-clause-cared
returns-in-Err-clause-cared g c = honest_cared (g.D.Desks.view c.serve_next.new.desks) c.in-Err.ensures.honest
