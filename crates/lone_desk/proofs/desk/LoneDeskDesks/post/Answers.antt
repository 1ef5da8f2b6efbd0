use Rattle.std.proofs.Common.{◌≡◌, ◌∙◌}
use Rattle.push_model.specs.declared.mail.MailChange.TheVariants.{Post}
use Rattle.push_model.specs.MailWords.{bit_of, mail_entry}
use Rattle.lone_desk.specs.Notes.{with_mail}
use Rattle.lone_desk.proofs.LoneLemmas.{mailed}
use Rattle.lone_desk.proofs.desk.LoneDeskDesks.post.Goals as goal

pub invariant_of-self : goal.invariant_of-self
invariant_of-self c =
    let notes : c.post.new.seat.me.0 ≡ with_mail c.self.inside.seat.me.0 c.args.node (mail_entry 0 (Post (bit_of c.args.uaid))) = rw (← c.get.ensures.value, ← c.mail_bit.ensures) c.post.ensures.notes in
    let done = mailed c.self.inside.seat.me.0 c.args.self.now c.post.new.seat.me.0 c.self.inside.shard c.args.shard c.args.node (Post (bit_of c.args.uaid)) c.self.view_is c.requires (rw c.get.ensures.value at c.get.ensures.low) (rw c.get.ensures.value at c.get.ensures.high) c.self.invariant.2 tt notes in
    (c.post.ensures.seat ∙ c.self.invariant.0, c.self.invariant.1, done.noted)

pub returns-clause-mail : goal.returns-clause-mail
returns-clause-mail c =
    let notes : c.post.new.seat.me.0 ≡ with_mail c.self.inside.seat.me.0 c.args.node (mail_entry 0 (Post (bit_of c.args.uaid))) = rw (← c.get.ensures.value, ← c.mail_bit.ensures) c.post.ensures.notes in
    let done = mailed c.self.inside.seat.me.0 c.args.self.now c.post.new.seat.me.0 c.self.inside.shard c.args.shard c.args.node (Post (bit_of c.args.uaid)) c.self.view_is c.requires (rw c.get.ensures.value at c.get.ensures.low) (rw c.get.ensures.value at c.get.ensures.high) c.self.invariant.2 tt notes in
    done.mails

pub returns-clause-last : goal.returns-clause-last
returns-clause-last c =
    let notes : c.post.new.seat.me.0 ≡ with_mail c.self.inside.seat.me.0 c.args.node (mail_entry 0 (Post (bit_of c.args.uaid))) = rw (← c.get.ensures.value, ← c.mail_bit.ensures) c.post.ensures.notes in
    let done = mailed c.self.inside.seat.me.0 c.args.self.now c.post.new.seat.me.0 c.self.inside.shard c.args.shard c.args.node (Post (bit_of c.args.uaid)) c.self.view_is c.requires (rw c.get.ensures.value at c.get.ensures.low) (rw c.get.ensures.value at c.get.ensures.high) c.self.invariant.2 tt notes in
    done.last
