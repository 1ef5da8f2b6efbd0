use Rattle.std.proofs.Common.{◌≡◌, ℕ, ◌+◌, List, set, sym, subst, arith}
use Rattle.push_exchange.specs.PassViews.{PassView}
use Rattle.push_exchange.proofs.RoundLemmas.{SplitSo, meets, reached, split_more, split_none, split_seated}
use Rattle.push_exchange.proofs.hall.split_all.Goals as goal

pub loop-k-init : goal.loop-k-init
loop-k-init g c = (split_none c.args.boards.now c.args.passes.now.items c.args.room.items c.requires.seated c.requires.room.0, c.requires.room.1)

pub split-new-requires-clause-board : goal.split-new-requires-clause-board
split-new-requires-clause-board g c = meets c.args.boards.now c.loop-k.passes.items c.loop-k.invariant.0.seated c.loop-k.k c.loop-k-test.true c.index_mut-pass.result.now c.index-boards-k.result c.index_mut-pass.ensures.value c.index-boards-k.is

pub split-new-requires-clause-opened : goal.split-new-requires-clause-opened
split-new-requires-clause-opened g c = reached c.args.boards.now c.loop-k.passes.items c.loop-k.invariant.0.seated c.loop-k.k c.loop-k-test.true c.index_mut-pass.result.now c.index_mut-pass.ensures.value

pub put-requires : goal.put-requires
put-requires g c =
    let low = c.loop-k-test.true in
    let wide = c.loop-k.invariant.0.split.wide in
    let room = c.loop-k.invariant.1 in
    omega (arith, c.loop-k.room.ok.0)

pub loop-k-preserved : goal.loop-k-preserved
loop-k-preserved g c =
    let e = c.split-new.ensures in (
      subst (λ (l : List PassView). SplitSo (c.loop-k.k + 1) c.args.boards.now c.args.passes.now.items (set c.loop-k.passes.items c.loop-k.k c.split-new.new.pass) l) (sym c.put.ensures.items)
          (split_more c.args.boards.now c.args.passes.now.items c.loop-k.passes.items c.loop-k.room.items c.loop-k.k c.index_mut-pass.result.now c.split-new.new.pass c.split-new.result c.loop-k-test.true c.loop-k.invariant.0 c.index_mut-pass.ensures.value e.pass e.new e.kept.0 e.kept.1),
      (let room = c.loop-k.invariant.1 in let more = c.put.ensures.capacity in omega arith),
    )

pub returns-clause-stays : goal.returns-clause-stays
returns-clause-stays g c = c.loop-k.invariant.0.stays

pub returns-clause-new : goal.returns-clause-new
returns-clause-new g c = let end : c.loop-k.k ≡ 16 = omega arith in (subst (λ (z : ℕ). SplitSo z c.args.boards.now c.args.passes.now.items c.loop-k.passes.items c.loop-k.room.items) end c.loop-k.invariant.0).split

pub returns-clause-seated : goal.returns-clause-seated
returns-clause-seated g c = let end : c.loop-k.k ≡ 16 = omega arith in
    (c.loop-k.invariant.0.seated, split_seated c.args.boards.now c.args.passes.now.items c.loop-k.passes.items c.loop-k.room.items c.requires.seated (subst (λ (z : ℕ). SplitSo z c.args.boards.now c.args.passes.now.items c.loop-k.passes.items c.loop-k.room.items) end c.loop-k.invariant.0))
