use Rattle.std.proofs.Common.{◌≡◌, ℕ, ◌<◌, get_or, refl, sym, subst, arith, rules}
use Rattle.std.proofs.lemmas.List.{length_push}
use Rattle.std.proofs.lemmas.Iterator.Consumers.{YieldsList-end, YieldsList-turn}
use Rattle.std.proofs.lemmas.Iterator.Adapters.{YieldsList-from_vec}
use Rattle.push_exchange.proofs.PassLists.{pass_read}
use Rattle.push_exchange.proofs.RoundLemmas.{JoinSo, join_more, join_none, meets, reached}
use Rattle.push_exchange.proofs.hall.join_all.Goals as goal

pub loop-other-init : goal.loop-other-init
loop-other-init c = (join_none c.args.boards.now c.args.passes.now.items c.args.others.items c.requires.this, refl)

pub offset_bounds-boards-k : goal.offset_bounds-boards-k
offset_bounds-boards-k c =
    let t = YieldsList-turn (YieldsList-from_vec {s = c.into_iter-other-iterator.result} c.args.others.items (search rules) (search rules)) c.loop-other.yielded c.loop-other.other-iterator c.loop-other.yielded_by c.next.result c.next.new.self c.in-Some.other c.in-Some.is c.next.ensures.steps in
    let w = c.requires.that.wide in let n = c.loop-other.invariant.1 in
    let low : c.loop-other.k < 16 = omega arith in search rules

pub bounds-boards-k : goal.bounds-boards-k
bounds-boards-k c =
    let t = YieldsList-turn (YieldsList-from_vec {s = c.into_iter-other-iterator.result} c.args.others.items (search rules) (search rules)) c.loop-other.yielded c.loop-other.other-iterator c.loop-other.yielded_by c.next.result c.next.new.self c.in-Some.other c.in-Some.is c.next.ensures.steps in
    let w = c.requires.that.wide in let n = c.loop-other.invariant.1 in let b = c.requires.this.boards in omega arith

pub index_mut-pass-requires : goal.index_mut-pass-requires
index_mut-pass-requires c =
    let t = YieldsList-turn (YieldsList-from_vec {s = c.into_iter-other-iterator.result} c.args.others.items (search rules) (search rules)) c.loop-other.yielded c.loop-other.other-iterator c.loop-other.yielded_by c.next.result c.next.new.self c.in-Some.other c.in-Some.is c.next.ensures.steps in
    let w = c.requires.that.wide in let n = c.loop-other.invariant.1 in let p = c.loop-other.invariant.0.seated.wide in omega (arith, c.loop-other.passes.ok.0)

pub join-requires-clause-board : goal.join-requires-clause-board
join-requires-clause-board c =
    let t = YieldsList-turn (YieldsList-from_vec {s = c.into_iter-other-iterator.result} c.args.others.items (search rules) (search rules)) c.loop-other.yielded c.loop-other.other-iterator c.loop-other.yielded_by c.next.result c.next.new.self c.in-Some.other c.in-Some.is c.next.ensures.steps in
    let w = c.requires.that.wide in let n = c.loop-other.invariant.1 in
    let low : c.loop-other.k < 16 = omega arith in
    let at : c.in-Some.other ≡ get_or c.args.others.items c.loop-other.k c.in-Some.other = subst (λ (z : ℕ). c.in-Some.other ≡ get_or c.args.others.items z c.in-Some.other) (sym n) t.1 in (
      meets c.args.boards.now c.loop-other.passes.items c.loop-other.invariant.0.seated c.loop-other.k low c.index_mut-pass.result.now c.index-boards-k.result c.index_mut-pass.ensures.value c.index-boards-k.is,
      meets c.args.boards.now c.args.others.items c.requires.that c.loop-other.k low c.in-Some.other c.index-boards-k.result at c.index-boards-k.is,
    )

pub join-requires-clause-opened : goal.join-requires-clause-opened
join-requires-clause-opened c =
    let t = YieldsList-turn (YieldsList-from_vec {s = c.into_iter-other-iterator.result} c.args.others.items (search rules) (search rules)) c.loop-other.yielded c.loop-other.other-iterator c.loop-other.yielded_by c.next.result c.next.new.self c.in-Some.other c.in-Some.is c.next.ensures.steps in
    let w = c.requires.that.wide in let n = c.loop-other.invariant.1 in
    reached c.args.boards.now c.loop-other.passes.items c.loop-other.invariant.0.seated c.loop-other.k (omega arith) c.index_mut-pass.result.now c.index_mut-pass.ensures.value

pub overflow_add-k : goal.overflow_add-k
overflow_add-k c =
    let t = YieldsList-turn (YieldsList-from_vec {s = c.into_iter-other-iterator.result} c.args.others.items (search rules) (search rules)) c.loop-other.yielded c.loop-other.other-iterator c.loop-other.yielded_by c.next.result c.next.new.self c.in-Some.other c.in-Some.is c.next.ensures.steps in
    let w = c.requires.that.wide in let n = c.loop-other.invariant.1 in
    let low : c.loop-other.k < 16 = omega arith in search rules

pub loop-other-preserved : goal.loop-other-preserved
loop-other-preserved c =
    let t = YieldsList-turn (YieldsList-from_vec {s = c.into_iter-other-iterator.result} c.args.others.items (search rules) (search rules)) c.loop-other.yielded c.loop-other.other-iterator c.loop-other.yielded_by c.next.result c.next.new.self c.in-Some.other c.in-Some.is c.next.ensures.steps in
    let w = c.requires.that.wide in let n = c.loop-other.invariant.1 in
    let low : c.loop-other.k < 16 = omega arith in
    let at : c.in-Some.other ≡ get_or c.args.others.items c.loop-other.k c.in-Some.other = subst (λ (z : ℕ). c.in-Some.other ≡ get_or c.args.others.items z c.in-Some.other) (sym n) t.1 in (
      join_more c.args.boards.now c.args.passes.now.items c.args.others.items c.loop-other.passes.items c.loop-other.k c.index_mut-pass.result.now c.in-Some.other c.join.new.pass low c.loop-other.invariant.0 c.index_mut-pass.ensures.value
          (pass_read c.args.others.items c.loop-other.k c.in-Some.other (omega arith) at) c.join.ensures.joined c.join.ensures.kept,
      omega (arith, length_push c.loop-other.yielded c.in-Some.other),
    )

pub returns-clause-joined : goal.returns-clause-joined
returns-clause-joined c =
    let t = YieldsList-end (YieldsList-from_vec {s = c.into_iter-other-iterator.result} c.args.others.items (search rules) (search rules)) c.loop-other.yielded c.loop-other.other-iterator c.loop-other.yielded_by c.next.result c.next.new.self c.in-None.is c.next.ensures.steps in
    let w = c.requires.that.wide in let n = c.loop-other.invariant.1 in
    let end : c.loop-other.k ≡ 16 = omega arith in
    (subst (λ (z : ℕ). JoinSo z c.args.boards.now c.args.passes.now.items c.args.others.items c.loop-other.passes.items) end c.loop-other.invariant.0).joined

pub returns-clause-seated : goal.returns-clause-seated
returns-clause-seated c = c.loop-other.invariant.0.seated
