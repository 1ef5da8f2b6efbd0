use Rattle.std.proofs.Common.{arith, sym}
use Rattle.session_front.proofs.ServeLemmas.{none_yet, one_more, done_at, paused_at}
use Rattle.session_front.proofs.serves.serve_session.Goals as goal

pub loop-count-init : goal.loop-count-init
loop-count-init g c = none_yet _ _ _

pub loop-count-preserved : goal.loop-count-preserved
loop-count-preserved g c = one_more _ _ c.loop-count.count _ _ _ c.pump-pumped.result (sym c.in-None.ensures) c.loop-count.invariant c.pump-pumped.ensures

pub returns-in-Some : goal.returns-in-Some
returns-in-Some g c = done_at _ _ c.loop-count.count _ _ _ _ c.pump-pumped.result c.in-Some.end (omega arith) (sym c.in-Some.ensures) c.loop-count.invariant c.pump-pumped.ensures

pub returns : goal.returns
returns g c = paused_at _ _ c.loop-count.count _ _ _ (omega arith) c.loop-count.invariant
