use Rattle.std.proofs.Common.{ℕ, true, false, subst}
use Rattle.push_outside.specs.Counts.{Rose}
use Rattle.endpoint_router.proofs.GiveLemmas.{push_gives_up, push_loss_flies, push_loss_went, push_said_flies, push_said_went, push_stays}
use Rattle.endpoint_router.proofs.RouteLemmas.{rose_later}
use Rattle.endpoint_router.proofs.WentLemmas.{linked_mail}
use Rattle.endpoint_router.proofs.given.at_direct.Goals as goal

pub push_heard-requires : goal.push_heard-requires
push_heard-requires g c = push_said_flies (g.D.Desks.view c.args.desks.now) (g.D.Desks.view c.push.new.desks) c.args.x true c.requires c.in-Here.ensures.step (linked_mail (g.D.Desks.view c.args.desks.now) (g.D.Desks.view c.push.new.desks) c.args.x.shard c.args.node c.in-Here.ensures.mail)

pub returns-in-Here-clause-went : goal.returns-in-Here-clause-went
returns-in-Here-clause-went g c =
    push_said_went (g.D.Desks.view c.args.desks.now) (g.D.Desks.view c.push.new.desks) c.args.x true c.requires c.in-Here.ensures.step (linked_mail (g.D.Desks.view c.args.desks.now) (g.D.Desks.view c.push.new.desks) c.args.x.shard c.args.node c.in-Here.ensures.mail)
    (g.D.Desks.view c.push_heard.new.desks) _ _ c.push_heard.result (λ l. subst (λ (n : ℕ). Rose n (g.L.NodeLink.faults c.push_heard.new.link)) c.in-Here.ensures.cause l) c.push_heard.ensures.went

pub push_heard-requires-in-NotHere : goal.push_heard-requires-in-NotHere
push_heard-requires-in-NotHere g c = push_said_flies (g.D.Desks.view c.args.desks.now) (g.D.Desks.view c.push.new.desks) c.args.x false c.requires c.in-NotHere.ensures.step (linked_mail (g.D.Desks.view c.args.desks.now) (g.D.Desks.view c.push.new.desks) c.args.x.shard c.args.node c.in-NotHere.ensures.mail)

pub returns-in-NotHere-clause-went : goal.returns-in-NotHere-clause-went
returns-in-NotHere-clause-went g c =
    push_said_went (g.D.Desks.view c.args.desks.now) (g.D.Desks.view c.push.new.desks) c.args.x false c.requires c.in-NotHere.ensures.step (linked_mail (g.D.Desks.view c.args.desks.now) (g.D.Desks.view c.push.new.desks) c.args.x.shard c.args.node c.in-NotHere.ensures.mail)
    (g.D.Desks.view c.push_heard-in-NotHere.new.desks) _ _ c.push_heard-in-NotHere.result (λ l. subst (λ (n : ℕ). Rose n (g.L.NodeLink.faults c.push_heard-in-NotHere.new.link)) c.in-NotHere.ensures.cause l) c.push_heard-in-NotHere.ensures.went

pub push_lost-requires : goal.push_lost-requires
push_lost-requires g c = push_loss_flies (g.D.Desks.view c.args.desks.now) (g.D.Desks.view c.push.new.desks) c.args.x c.requires (linked_mail (g.D.Desks.view c.args.desks.now) (g.D.Desks.view c.push.new.desks) c.args.x.shard c.args.node c.in-Lost.ensures.mail) c.in-Lost.ensures.step

pub returns-in-Lost-clause-went : goal.returns-in-Lost-clause-went
returns-in-Lost-clause-went g c =
    push_loss_went (g.D.Desks.view c.args.desks.now) (g.D.Desks.view c.push.new.desks) c.args.x c.requires (linked_mail (g.D.Desks.view c.args.desks.now) (g.D.Desks.view c.push.new.desks) c.args.x.shard c.args.node c.in-Lost.ensures.mail) (g.D.Desks.view c.push_lost.new.desks) _ c.push_lost.result
    c.in-Lost.ensures.step (rose_later (g.L.NodeLink.faults c.args.link.now) (g.L.NodeLink.faults c.push.new.self) (g.L.NodeLink.faults c.push_lost.new.link) c.in-Lost.ensures.cause.1 c.push_lost.ensures.faults) c.push_lost.ensures.went

pub give_up-requires : goal.give_up-requires
give_up-requires g c = push_stays (g.D.Desks.view c.args.desks.now) (g.D.Desks.view c.push.new.desks) c.args.x c.requires (linked_mail (g.D.Desks.view c.args.desks.now) (g.D.Desks.view c.push.new.desks) c.args.x.shard c.args.node c.in-NoMemory.ensures.mail) c.in-NoMemory.ensures.step.0

pub returns-in-NoMemory-clause-went : goal.returns-in-NoMemory-clause-went
returns-in-NoMemory-clause-went g c =
    push_gives_up (g.D.Desks.view c.args.desks.now) (g.D.Desks.view c.push.new.desks) c.args.x c.requires (linked_mail (g.D.Desks.view c.args.desks.now) (g.D.Desks.view c.push.new.desks) c.args.x.shard c.args.node c.in-NoMemory.ensures.mail) (g.D.Desks.view c.give_up.new.desks) _ c.give_up.result c.in-NoMemory.ensures.step.0 c.give_up.ensures
