use Rattle.std.proofs.Common.{refl, arith}
use Rattle.push_model.specs.MessageValue.{MessageValue}
use Rattle.push_model.specs.FlightSteps.{begin}
use Rattle.push_model.specs.Steps.{OnUser}
use Rattle.shard_core.proofs.Puts.{steps_at}
use Rattle.shard_core.specs.Owners.{token_owner}
use Rattle.shard_core.proofs.DueCells.{due_begun}
use Rattle.shard_core.proofs.TokenOwners.{tokens_begun}
use Rattle.shard_core.proofs.Values.{on_err}
use Rattle.shard_core.proofs.state.State.begin_numbered.Goals as goal

pub returns-in_err-reply-clause-err : goal.returns-in_err-reply-clause-err
returns-in_err-reply-clause-err c =
    let err = c.in_err-reply.ensures.err in
    on_err c.from_residual.result (rw err.0 c.self.view_is, rw (← c.self.view_is) err.1)

pub returns-clause-ok : goal.returns-clause-ok
returns-clause-ok c =
    let s = c.self.inside in
    let m : MessageValue = record { id = record { shard = s.number; number = s.next }; uaid = c.args.uaid; chid = c.args.chid; ask = c.args.ask; accepted = s.clock } in
    rw (← c.self.view_is)
    (steps_at (OnUser c.args.uaid (begin c.args.op c.args.token m)) _ _ c.args.uaid c.begin_owned.new.cells.entries c.in_ok-reply.reply c.in_ok-reply.ensures.ok refl)

pub invariant_of-self-2 : goal.invariant_of-self-2
invariant_of-self-2 c =
    let s = c.self.inside in
    let m : MessageValue = record { id = record { shard = s.number; number = s.next }; uaid = c.args.uaid; chid = c.args.chid; ask = c.args.ask; accepted = s.clock } in
    let below = rw (← c.self.view_is) at c.requires.number in (
      omega arith,
      due_begun c.args.uaid c.args.op c.args.token m c.in_ok-reply.reply s.soonest s.cells.entries c.begin_owned.new.cells.entries c.in_ok-reply.ensures.ok c.self.invariant.1,
      c.begin_owned.ensures.complete,
      tokens_begun (token_owner s.tokens.entries) c.args.uaid c.args.op c.args.token m s.cells.entries c.begin_owned.new.cells.entries c.in_ok-reply.reply c.in_ok-reply.ensures.ok c.self.invariant.3,
      c.begin_owned.ensures.sound c.self.invariant.4,
    )
