use Rattle.std.proofs.Common.{sym}
use Rattle.std.specs.Prelude.{Ok}
use Rattle.endpoint_router.proofs.StoreLemmas.{store_ends, store_flies, store_gives_up, store_stays, store_went}
use Rattle.endpoint_router.proofs.stored.at_store.Goals as goal

pub returns-in-Some-clause-went : goal.returns-in-Some-clause-went
returns-in-Some-clause-went g c =
    store_ends (g.D.Desks.view c.args.desks.now) (g.D.Desks.view c.make.new.desks) c.args.x c.in-Ok.reply c.requires c.in-Ok.ensures.ok c.make.ensures.mail
    _ c.in-Some.code c.answer_to.result (sym c.in-Some.ensures) c.answer_to.ensures

pub at_reread-requires : goal.at_reread-requires
at_reread-requires g c = store_flies (g.D.Desks.view c.args.desks.now) (g.D.Desks.view c.make.new.desks) c.args.x c.in-Ok.reply c.requires c.in-Ok.ensures.ok c.make.ensures.mail (sym c.in-None.ensures)

pub returns-in-Ok-clause-went : goal.returns-in-Ok-clause-went
returns-in-Ok-clause-went g c =
    store_went (g.D.Desks.view c.args.desks.now) (g.D.Desks.view c.make.new.desks) c.args.x c.in-Ok.reply c.requires c.in-Ok.ensures.ok c.make.ensures.mail (g.D.Desks.view c.at_reread.new.desks) _ (Ok c.at_reread.result) (sym c.in-None.ensures) c.at_reread.ensures.went

pub give_up-requires : goal.give_up-requires
give_up-requires g c = store_stays (g.D.Desks.view c.args.desks.now) (g.D.Desks.view c.make.new.desks) c.args.x c.requires c.in-Err.ensures.err.0 c.make.ensures.mail

pub returns-clause-went : goal.returns-clause-went
returns-clause-went g c =
    store_gives_up (g.D.Desks.view c.args.desks.now) (g.D.Desks.view c.make.new.desks) (g.D.Desks.view c.give_up.new.desks) c.args.x _ c.give_up.result c.in-Err.ensures.err.0 c.make.ensures.mail c.give_up.ensures
