use Rattle.std.proofs.Common.{◌≡◌, true, ◌∙◌, sym, subst}
use Rattle.push_model.specs.Worlds.{World}
use Rattle.push_model.specs.Steps.{step}
use Rattle.push_model.specs.Histories.{IsLegal}
use Rattle.push_model.specs.Caring.{is_cared}
use Rattle.lone_desk.specs.LoneViews.{lone_view}
use Rattle.lone_desk.proofs.LoneLemmas.{called}
use Rattle.lone_desk.proofs.desk.LoneDeskDesks.call.Goals as goal

pub invariant_of-self-2 : goal.invariant_of-self-2
invariant_of-self-2 c =
    let done = called c.self.inside.seat.me.0 c.args.self.now c.note.new.seat.me.0 c.self.inside.shard c.step.new.self c.args.shard c.args.asked c.of-said.result.value c.in_ok-reply.reply c.self.view_is c.requires.within c.self.invariant.2 c.in_ok-reply.ensures.ok c.requires.allowed c.of-said.ensures c.note.ensures.notes in
    (c.note.ensures.seat ∙ c.self.invariant.0, c.self.invariant.1, done.noted)

pub returns-clause-made : goal.returns-clause-made
returns-clause-made c =
    let done = called c.self.inside.seat.me.0 c.args.self.now c.note.new.seat.me.0 c.self.inside.shard c.step.new.self c.args.shard c.args.asked c.of-said.result.value c.in_ok-reply.reply c.self.view_is c.requires.within c.self.invariant.2 c.in_ok-reply.ensures.ok c.requires.allowed c.of-said.ensures c.note.ensures.notes in
    done.calls

pub returns-clause-last : goal.returns-clause-last
returns-clause-last c =
    let done = called c.self.inside.seat.me.0 c.args.self.now c.note.new.seat.me.0 c.self.inside.shard c.step.new.self c.args.shard c.args.asked c.of-said.result.value c.in_ok-reply.reply c.self.view_is c.requires.within c.self.invariant.2 c.in_ok-reply.ensures.ok c.requires.allowed c.of-said.ensures c.note.ensures.notes in
    done.last

pub returns-clause-accounted : goal.returns-clause-accounted
returns-clause-accounted c =
    let done = called c.self.inside.seat.me.0 c.args.self.now c.note.new.seat.me.0 c.self.inside.shard c.step.new.self c.args.shard c.args.asked c.of-said.result.value c.in_ok-reply.reply c.self.view_is c.requires.within c.self.invariant.2 c.in_ok-reply.ensures.ok c.requires.allowed c.of-said.ensures c.note.ensures.notes in
    let seen = (lone_view c.note.new.seat.me.0).seen c.args.shard in
    λ number next start. c.legal_histories_are_accounted.ensures number next seen (subst (λ (w : World). IsLegal step w seen) start done.last.legal)

pub returns-clause-cared : goal.returns-clause-cared
returns-clause-cared c =
    let done = called c.self.inside.seat.me.0 c.args.self.now c.note.new.seat.me.0 c.self.inside.shard c.step.new.self c.args.shard c.args.asked c.of-said.result.value c.in_ok-reply.reply c.self.view_is c.requires.within c.self.invariant.2 c.in_ok-reply.ensures.ok c.requires.allowed c.of-said.ensures c.note.ensures.notes in
    subst (λ (w : World). is_cared w ≡ true) (sym done.leads) c.step.ensures.cared
