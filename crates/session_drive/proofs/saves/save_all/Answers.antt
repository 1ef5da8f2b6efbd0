use Rattle.std.proofs.Common.{arith, refl}
use Rattle.session_drive.proofs.SaveLemmas.{saved_none, saved_on, saved_over, saved_full}
use Rattle.session_drive.proofs.saves.save_all.Goals as goal

pub loop-place-init : goal.loop-place-init
loop-place-init g c = saved_none c.args.shard c.args.s c.args.held _

pub loop-place-preserved : goal.loop-place-preserved
loop-place-preserved g c =
    let i = c.loop-place.invariant in
    saved_on c.args.shard c.args.s c.args.held c.loop-place.place c.loop-place.saved _ _ _ i c.in-On.count
    (c.in-On.ensures.step c.args.held c.loop-place.place i.number (omega arith) i.count)

pub returns-in-Over-clause-steps : goal.returns-in-Over-clause-steps
returns-in-Over-clause-steps g c =
    let i = c.loop-place.invariant in
    saved_over c.args.shard c.args.s c.args.held c.loop-place.place c.loop-place.saved _ _ _ i c.in-Over.handover
    (c.in-Over.ensures.step c.args.held c.loop-place.place i.number (omega arith) i.count)

pub returns-in-On-save_next-clause-steps : goal.returns-in-On-save_next-clause-steps
returns-in-On-save_next-clause-steps g c =
    let i = c.loop-place.invariant in
    saved_full c.args.shard c.args.s c.args.held _ c.in-On-save_next.saved _ _ _ (omega arith) refl refl
    (saved_on c.args.shard c.args.s c.args.held c.loop-place.place c.loop-place.saved _ _ _ i c.in-On-save_next.saved
    (c.in-On-save_next.ensures.step c.args.held c.loop-place.place i.number (omega arith) i.count))

pub returns-in-Over-save_next-clause-steps : goal.returns-in-Over-save_next-clause-steps
returns-in-Over-save_next-clause-steps g c =
    let i = c.loop-place.invariant in
    saved_over c.args.shard c.args.s c.args.held c.loop-place.place c.loop-place.saved _ _ _ i c.in-Over-save_next.handover
    (c.in-Over-save_next.ensures.step c.args.held c.loop-place.place i.number (omega arith) i.count)
