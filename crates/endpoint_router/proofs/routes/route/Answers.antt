use Rattle.std.proofs.Common.{sym, ap}
use Rattle.push_model.specs.AskValue.{AskValue}
use Rattle.endpoint_router.specs.Shards.{shard_of}
use Rattle.endpoint_router.proofs.RouteLemmas.{then_begun, then_signs, then_wants, then_went, then_within, went_accounted, went_cared, went_honest}
use Rattle.endpoint_router.proofs.routes.route.Goals as goal

pub make-requires-clause-within : goal.make-requires-clause-within
make-requires-clause-within g c =
    then_within (g.D.Desks.view c.args.desks.now) (g.D.Desks.view c.make_free.new.desks) c.shard_at-shard.result (shard_of c.args.token (g.D.Desks.view c.args.desks.now).size) c.args.now c.args.op c.make_free.result c.shard_at-shard.ensures.value c.requires.honest c.requires.fresh
    c.shard_at-shard.ensures.within c.make_free.ensures.made c.make_free.ensures.mail

pub make-requires-clause-allowed : goal.make-requires-clause-allowed
make-requires-clause-allowed g c =
    then_signs (g.D.Desks.view c.args.desks.now) (g.D.Desks.view c.make_free.new.desks) c.shard_at-shard.result (shard_of c.args.token (g.D.Desks.view c.args.desks.now).size) c.args.now c.args.op c.make_free.result c.shard_at-shard.ensures.value c.requires.honest c.requires.fresh
    c.shard_at-shard.ensures.within c.make_free.ensures.made c.make_free.ensures.mail

pub begun-requires : goal.begun-requires
begun-requires g c =
    then_begun (g.D.Desks.view c.args.desks.now) (g.D.Desks.view c.make_free.new.desks) c.shard_at-shard.result (shard_of c.args.token (g.D.Desks.view c.args.desks.now).size) c.args.now c.args.op c.make_free.result c.shard_at-shard.ensures.value c.requires.honest c.requires.fresh
    c.shard_at-shard.ensures.within c.make_free.ensures.made c.make_free.ensures.mail
    (g.D.Desks.view c.make.new.desks) c.args.token c.args.ask c.ask.inside.terms.ttl c.in_ok-reply.reply (sym (ap (λ (z : AskValue). z.terms.ttl) c.ask.view_is)) c.in_ok-reply.ensures.ok c.make.ensures.mail

-- ---- where Begin wanted memory

pub returns-in_err-reply-clause-went : goal.returns-in_err-reply-clause-went
returns-in_err-reply-clause-went g c =
    then_wants (g.D.Desks.view c.args.desks.now) (g.D.Desks.view c.make_free.new.desks) c.shard_at-shard.result (shard_of c.args.token (g.D.Desks.view c.args.desks.now).size) c.args.now c.args.op c.make_free.result c.shard_at-shard.ensures.value c.requires.honest c.requires.fresh
    c.shard_at-shard.ensures.within c.make_free.ensures.made c.make_free.ensures.mail
    (g.D.Desks.view c.make.new.desks) c.args.token c.args.ask _ c.from_residual.result c.in_err-reply.ensures.err.0 c.make.ensures.mail c.from_residual.ensures.0

pub returns-in_err-reply-clause-honest : goal.returns-in_err-reply-clause-honest
returns-in_err-reply-clause-honest g c =
    went_honest (g.D.Desks.view c.args.desks.now) (g.D.Desks.view c.make.new.desks) (shard_of c.args.token (g.D.Desks.view c.args.desks.now).size) _ _ c.requires.honest (returns-in_err-reply-clause-went g c)

pub returns-in_err-reply-clause-accounted : goal.returns-in_err-reply-clause-accounted
returns-in_err-reply-clause-accounted g c =
    went_accounted (g.D.Desks.view c.args.desks.now) (g.D.Desks.view c.make.new.desks) (shard_of c.args.token (g.D.Desks.view c.args.desks.now).size) _ _ c.requires.honest (returns-in_err-reply-clause-went g c)

pub returns-in_err-reply-clause-cared : goal.returns-in_err-reply-clause-cared
returns-in_err-reply-clause-cared g c =
    went_cared (g.D.Desks.view c.args.desks.now) (g.D.Desks.view c.make.new.desks) (shard_of c.args.token (g.D.Desks.view c.args.desks.now).size) _ _ c.requires.honest (returns-in_err-reply-clause-went g c)

-- ---- where it replied

pub returns-clause-went : goal.returns-clause-went
returns-clause-went g c =
    then_went (g.D.Desks.view c.args.desks.now) (g.D.Desks.view c.make_free.new.desks) c.shard_at-shard.result (shard_of c.args.token (g.D.Desks.view c.args.desks.now).size) c.args.now c.args.op c.make_free.result c.shard_at-shard.ensures.value c.requires.honest c.requires.fresh
    c.shard_at-shard.ensures.within c.make_free.ensures.made c.make_free.ensures.mail
    (g.D.Desks.view c.make.new.desks) c.args.token c.args.ask c.ask.inside.terms.ttl c.in_ok-reply.reply (sym (ap (λ (z : AskValue). z.terms.ttl) c.ask.view_is)) c.in_ok-reply.ensures.ok c.make.ensures.mail
    (g.D.Desks.view c.begun.new.desks) _ c.begun.result c.begun.ensures.went

pub returns-clause-honest : goal.returns-clause-honest
returns-clause-honest g c = went_honest (g.D.Desks.view c.args.desks.now) (g.D.Desks.view c.begun.new.desks) (shard_of c.args.token (g.D.Desks.view c.args.desks.now).size) _ _ c.requires.honest (returns-clause-went g c)

pub returns-clause-accounted : goal.returns-clause-accounted
returns-clause-accounted g c = went_accounted (g.D.Desks.view c.args.desks.now) (g.D.Desks.view c.begun.new.desks) (shard_of c.args.token (g.D.Desks.view c.args.desks.now).size) _ _ c.requires.honest (returns-clause-went g c)

pub returns-clause-cared : goal.returns-clause-cared
returns-clause-cared g c = went_cared (g.D.Desks.view c.args.desks.now) (g.D.Desks.view c.begun.new.desks) (shard_of c.args.token (g.D.Desks.view c.args.desks.now).size) _ _ c.requires.honest (returns-clause-went g c)
