use Rattle.std.proofs.Common.{sym, arith}
use Rattle.std.proofs.lemmas.Option.{get_or_from_slice_get, slice_get_within}
use Rattle.std.proofs.lemmas.Result.{err_from_is_err_and}
use Rattle.session_drive.proofs.AnswerLemmas.{acks_none, ack_on, ack_failed, acks_done}
use Rattle.session_drive.proofs.acks.ack_all.Goals as goal

pub loop-place-init : goal.loop-place-init
loop-place-init g c = acks_none c.args.shard c.args.s c.args.updates.now _

pub loop-place-preserved : goal.loop-place-preserved
loop-place-preserved g c =
    ack_on c.args.shard c.args.s c.args.updates.now c.loop-place.place c.at.result
    (slice_get_within c.args.updates.now c.loop-place.place c.at.result c.at.ensures)
    (sym (get_or_from_slice_get c.args.updates.now c.loop-place.place c.at.result c.at.result c.at.ensures))
    _ _ _ _ c.loop-place.invariant c.in_ok-ack.ensures

pub returns-in_err-ack-clause-steps : goal.returns-in_err-ack-clause-steps
returns-in_err-ack-clause-steps g c =
    let p = err_from_is_err_and c.from_residual.result c.from_residual.ensures.1 in
    rw (p.1, p.2)
    (ack_failed c.args.shard c.args.s c.args.updates.now c.loop-place.place c.at.result
    (slice_get_within c.args.updates.now c.loop-place.place c.at.result c.at.ensures)
    (sym (get_or_from_slice_get c.args.updates.now c.loop-place.place c.at.result c.at.result c.at.ensures))
    _ _ _ _ _ c.loop-place.invariant c.in_err-ack.ensures)

pub returns-clause-steps : goal.returns-clause-steps
returns-clause-steps g c = acks_done c.args.shard c.args.s c.args.updates.now _ c.loop-place.place _ _ (omega arith) c.loop-place.invariant
