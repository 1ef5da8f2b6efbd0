use Rattle.std.proofs.Common.{◌≡◌, ℕ, ◌+◌, ◌<◌, List, get_or, refl, sym, subst, arith, rules}
use Rattle.std.proofs.lemmas.List.{length_push}
use Rattle.std.proofs.lemmas.Iterator.Consumers.{YieldsList-end, YieldsList-turn}
use Rattle.std.proofs.lemmas.Iterator.Adapters.{YieldsList-from_vec}
use Rattle.push_model.specs.Worlds.{World}
use Rattle.push_exchange.specs.PassViews.{IsAlone}
use Rattle.push_exchange.specs.Rounds.{AllEnded}
use Rattle.push_exchange.proofs.PassLists.{pass_read}
use Rattle.push_exchange.proofs.RoundLemmas.{ended_more, ended_none, meets}
use Rattle.push_exchange.proofs.hall.finish_all.Goals as goal

pub loop-pass-init : goal.loop-pass-init
loop-pass-init g c = (ended_none c.args.passes.items c.args.room.items c.requires.room.0, refl, c.requires.room.1)

pub offset_bounds-boards-k : goal.offset_bounds-boards-k
offset_bounds-boards-k g c =
    let t = YieldsList-turn (YieldsList-from_vec {s = c.into_iter-pass-iterator.result} c.args.passes.items (search rules) (search rules)) c.loop-pass.yielded c.loop-pass.pass-iterator c.loop-pass.yielded_by c.next.result c.next.new.self c.in-Some.pass c.in-Some.is c.next.ensures.steps in
    let w = c.requires.seated.wide in let n = c.loop-pass.invariant.1 in
    let low : c.loop-pass.k < 16 = omega arith in search rules

pub bounds-boards-k : goal.bounds-boards-k
bounds-boards-k g c =
    let t = YieldsList-turn (YieldsList-from_vec {s = c.into_iter-pass-iterator.result} c.args.passes.items (search rules) (search rules)) c.loop-pass.yielded c.loop-pass.pass-iterator c.loop-pass.yielded_by c.next.result c.next.new.self c.in-Some.pass c.in-Some.is c.next.ensures.steps in
    let w = c.requires.seated.wide in let n = c.loop-pass.invariant.1 in let b = c.requires.seated.boards in omega arith

pub finish-shard-requires-clause-board : goal.finish-shard-requires-clause-board
finish-shard-requires-clause-board g c =
    let t = YieldsList-turn (YieldsList-from_vec {s = c.into_iter-pass-iterator.result} c.args.passes.items (search rules) (search rules)) c.loop-pass.yielded c.loop-pass.pass-iterator c.loop-pass.yielded_by c.next.result c.next.new.self c.in-Some.pass c.in-Some.is c.next.ensures.steps in
    let w = c.requires.seated.wide in let n = c.loop-pass.invariant.1 in
    let at : c.in-Some.pass ≡ get_or c.args.passes.items c.loop-pass.k c.in-Some.pass = subst (λ (z : ℕ). c.in-Some.pass ≡ get_or c.args.passes.items z c.in-Some.pass) (sym n) t.1 in
    meets c.args.boards.now c.args.passes.items c.requires.seated c.loop-pass.k (omega arith) c.in-Some.pass c.index-boards-k.result at c.index-boards-k.is

pub finish-shard-requires-clause-alone : goal.finish-shard-requires-clause-alone
finish-shard-requires-clause-alone g c =
    let t = YieldsList-turn (YieldsList-from_vec {s = c.into_iter-pass-iterator.result} c.args.passes.items (search rules) (search rules)) c.loop-pass.yielded c.loop-pass.pass-iterator c.loop-pass.yielded_by c.next.result c.next.new.self c.in-Some.pass c.in-Some.is c.next.ensures.steps in
    let w = c.requires.seated.wide in let n = c.loop-pass.invariant.1 in
    let at : c.in-Some.pass ≡ get_or c.args.passes.items c.loop-pass.k c.in-Some.pass = subst (λ (z : ℕ). c.in-Some.pass ≡ get_or c.args.passes.items z c.in-Some.pass) (sym n) t.1 in
    subst IsAlone (pass_read c.args.passes.items c.loop-pass.k c.in-Some.pass (omega arith) at) (c.requires.alone c.loop-pass.k (omega arith))

pub put-requires : goal.put-requires
put-requires g c =
    let t = YieldsList-turn (YieldsList-from_vec {s = c.into_iter-pass-iterator.result} c.args.passes.items (search rules) (search rules)) c.loop-pass.yielded c.loop-pass.pass-iterator c.loop-pass.yielded_by c.next.result c.next.new.self c.in-Some.pass c.in-Some.is c.next.ensures.steps in
    let w = c.requires.seated.wide in let n = c.loop-pass.invariant.1 in let wide = c.loop-pass.invariant.0.wide in let room = c.loop-pass.invariant.2 in
    omega (arith, c.loop-pass.room.ok.0)

pub overflow_add-k : goal.overflow_add-k
overflow_add-k g c =
    let t = YieldsList-turn (YieldsList-from_vec {s = c.into_iter-pass-iterator.result} c.args.passes.items (search rules) (search rules)) c.loop-pass.yielded c.loop-pass.pass-iterator c.loop-pass.yielded_by c.next.result c.next.new.self c.in-Some.pass c.in-Some.is c.next.ensures.steps in
    let w = c.requires.seated.wide in let n = c.loop-pass.invariant.1 in
    let low : c.loop-pass.k < 16 = omega arith in search rules

pub loop-pass-preserved : goal.loop-pass-preserved
loop-pass-preserved g c =
    let t = YieldsList-turn (YieldsList-from_vec {s = c.into_iter-pass-iterator.result} c.args.passes.items (search rules) (search rules)) c.loop-pass.yielded c.loop-pass.pass-iterator c.loop-pass.yielded_by c.next.result c.next.new.self c.in-Some.pass c.in-Some.is c.next.ensures.steps in
    let w = c.requires.seated.wide in let n = c.loop-pass.invariant.1 in
    let at : c.in-Some.pass ≡ get_or c.args.passes.items c.loop-pass.k c.in-Some.pass = subst (λ (z : ℕ). c.in-Some.pass ≡ get_or c.args.passes.items z c.in-Some.pass) (sym n) t.1 in (
      subst (λ (l : List World). AllEnded (c.loop-pass.k + 1) c.args.passes.items l) (sym c.put.ensures.items)
          (ended_more c.args.passes.items c.loop-pass.room.items c.loop-pass.k c.in-Some.pass c.finish-shard.result c.loop-pass.invariant.0 (pass_read c.args.passes.items c.loop-pass.k c.in-Some.pass (omega arith) at) c.finish-shard.ensures),
      omega (arith, length_push c.loop-pass.yielded c.in-Some.pass),
      (let room = c.loop-pass.invariant.2 in let more = c.put.ensures.capacity in omega arith),
    )

pub returns : goal.returns
returns g c =
    let t = YieldsList-end (YieldsList-from_vec {s = c.into_iter-pass-iterator.result} c.args.passes.items (search rules) (search rules)) c.loop-pass.yielded c.loop-pass.pass-iterator c.loop-pass.yielded_by c.next.result c.next.new.self c.in-None.is c.next.ensures.steps in
    let w = c.requires.seated.wide in let n = c.loop-pass.invariant.1 in
    let end : c.loop-pass.k ≡ 16 = omega arith in
    subst (λ (z : ℕ). AllEnded z c.args.passes.items c.loop-pass.room.items) end c.loop-pass.invariant.0
