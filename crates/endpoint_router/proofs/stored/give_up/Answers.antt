use Rattle.std.proofs.Common.{refl}
use Rattle.std.specs.Prelude.{Err}
use Rattle.endpoint_router.proofs.StoreLemmas.{give_up_went}
use Rattle.endpoint_router.proofs.stored.give_up.Goals as goal

pub returns : goal.returns
returns g c =
    give_up_went (g.D.Desks.view c.args.desks.now) (g.D.Desks.view c.make_free.new.desks) c.args.x c.make_free.result (Err (record {})) c.requires c.make_free.ensures.made c.make_free.ensures.mail refl
