use Rattle.std.proofs.Common.{◌∙◌}
use Rattle.push_model.specs.declared.mail.MailChange.TheVariants.{Taken}
use Rattle.lone_desk.proofs.LoneLemmas.{mailed}
use Rattle.lone_desk.proofs.desk.LoneDeskDesks.take_mail.Goals as goal

pub invariant_of-self : goal.invariant_of-self
invariant_of-self c =
    let done = mailed c.self.inside.seat.me.0 c.args.self.now c.take.new.seat.me.0 c.self.inside.shard c.args.shard c.args.node (Taken c.take.result) c.self.view_is c.requires (rw c.get.ensures.value at c.get.ensures.low) (rw c.get.ensures.value at c.get.ensures.high) c.self.invariant.2 (rw (← c.get.ensures.value) c.take.ensures.out) (rw (← c.get.ensures.value) c.take.ensures.notes) in
    (c.take.ensures.seat ∙ c.self.invariant.0, c.self.invariant.1, done.noted)

pub returns-clause-mail : goal.returns-clause-mail
returns-clause-mail c =
    let done = mailed c.self.inside.seat.me.0 c.args.self.now c.take.new.seat.me.0 c.self.inside.shard c.args.shard c.args.node (Taken c.take.result) c.self.view_is c.requires (rw c.get.ensures.value at c.get.ensures.low) (rw c.get.ensures.value at c.get.ensures.high) c.self.invariant.2 (rw (← c.get.ensures.value) c.take.ensures.out) (rw (← c.get.ensures.value) c.take.ensures.notes) in
    (c.take.result, c.of.ensures, done.mails, done.last)
