use Rattle.std.proofs.Common.{◌<◌, ◌∙◌, ap, sym, arith}
use Rattle.push_exchange.specs.PassViews.{PassView}
use Rattle.push_exchange.proofs.DeskCalls.{few_of, known}
use Rattle.push_exchange.proofs.passes.PassesDesks.pass.Goals as goal

pub index-requires : goal.index-requires
index-requires g c =
    let low : c.from.result < 16 = few_of c.self.inside.hall.value.boards.items c.self.inside.passes.items c.args.self.now c.self.invariant c.self.view_is c.from.result c.args.shard c.from.ensures c.requires in
    let wide = c.self.invariant.wide in
    omega (arith, c.self.inside.passes.ok.0)

pub returns : goal.returns
returns g c =
    c.number.ensures ∙ ap (λ (p : PassView). p.number) (sym (known c.self.inside.hall.value.boards.items c.self.inside.passes.items c.args.self.now c.self.invariant c.self.view_is c.from.result c.args.shard c.from.ensures c.requires c.index.result.now c.index.ensures))
