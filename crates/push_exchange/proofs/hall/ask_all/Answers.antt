use Rattle.std.proofs.Common.{◌≡◌, ℕ, ◌+◌, ◌<◌, Bool, set, sym, subst, arith}
use Rattle.std.specs.Bool.{OnFalse, OnTrue}
use Rattle.push_exchange.specs.PassViews.{IsAlone}
use Rattle.push_exchange.specs.Boards.{AllAsked, pass_at}
use Rattle.push_exchange.proofs.RoundLemmas.{AskSo, ask_more, ask_none, meets, reached}
use Rattle.push_exchange.proofs.hall.ask_all.Goals as goal

pub loop-k-init : goal.loop-k-init
loop-k-init c = ask_none c.args.boards.now c.args.passes.now.items c.requires

pub alone-alone-requires-clause-board : goal.alone-alone-requires-clause-board
alone-alone-requires-clause-board c = meets c.args.boards.now c.loop-k.passes.items c.loop-k.invariant.seated c.loop-k.k c.loop-k-test.true c.index_mut-pass.result.now c.index-boards-k.result c.index_mut-pass.ensures.value c.index-boards-k.is

pub alone-alone-requires-clause-opened : goal.alone-alone-requires-clause-opened
alone-alone-requires-clause-opened c = reached c.args.boards.now c.loop-k.passes.items c.loop-k.invariant.seated c.loop-k.k c.loop-k-test.true c.index_mut-pass.result.now c.index_mut-pass.ensures.value

pub loop-k-preserved : goal.loop-k-preserved
loop-k-preserved c =
    let e = c.alone-alone.ensures in
    subst (λ (z : Bool). AskSo (c.loop-k.k + 1) z c.args.boards.now c.args.passes.now.items (set c.loop-k.passes.items c.loop-k.k c.alone-alone.new.pass)) (sym c.both-all.ensures)
    (ask_more c.args.boards.now c.args.passes.now.items c.loop-k.passes.items c.loop-k.k c.index_mut-pass.result.now c.alone-alone.new.pass c.loop-k.all c.alone-alone.result c.loop-k-test.true c.loop-k.invariant c.index_mut-pass.ensures.value e.asked e.kept e.alone.0 e.alone.1)

pub returns-clause-asked : goal.returns-clause-asked
returns-clause-asked c = let end : c.loop-k.k ≡ 16 = omega arith in subst (λ (z : ℕ). AllAsked z c.args.passes.now.items c.loop-k.passes.items) end c.loop-k.invariant.asked

pub returns-clause-seated : goal.returns-clause-seated
returns-clause-seated c = c.loop-k.invariant.seated

pub returns-clause-alone : goal.returns-clause-alone
returns-clause-alone c = let end : c.loop-k.k ≡ 16 = omega arith in subst (λ (z : ℕ). OnTrue c.loop-k.all ((j : ℕ) → j < z → IsAlone (pass_at c.loop-k.passes.items j))) end c.loop-k.invariant.alone

pub returns-clause-out : goal.returns-clause-out
returns-clause-out c = let end : c.loop-k.k ≡ 16 = omega arith in subst (λ (z : ℕ). OnFalse c.loop-k.all ((j : ℕ) × (j < z) × ¬ IsAlone (pass_at c.loop-k.passes.items j))) end c.loop-k.invariant.out
