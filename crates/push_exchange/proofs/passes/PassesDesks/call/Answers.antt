use Rattle.std.proofs.Common.{◌≡◌, ◌<◌, length, arith}
use Rattle.std.proofs.lemmas.Result.{IfOk-weaker, on_err_weaker}
use Rattle.push_exchange.proofs.DeskCalls.{accounted, allowed, began, called, cared, few_of, on_board, refused, seated, unmailed}
use Rattle.push_exchange.proofs.passes.PassesDesks.call.Goals as goal

pub index-board-requires : goal.index-board-requires
index-board-requires g c =
    let low : c.from-place.result < 16 = few_of c.self.inside.hall.value.boards.items c.self.inside.passes.items c.args.self.now c.self.invariant c.self.view_is c.from-place.result c.args.shard c.from-place.ensures c.requires.within in
    let wide : length c.deref-hall.result.now.boards.items ≡ 16 = rw c.deref-hall.ensures c.self.invariant.boards in
    omega (arith, c.deref-hall.result.now.boards.ok.0)

pub index_mut-pass-requires : goal.index_mut-pass-requires
index_mut-pass-requires g c =
    let low : c.from-place.result < 16 = few_of c.self.inside.hall.value.boards.items c.self.inside.passes.items c.args.self.now c.self.invariant c.self.view_is c.from-place.result c.args.shard c.from-place.ensures c.requires.within in
    let wide = c.self.invariant.wide in
    omega (arith, c.self.inside.passes.ok.0)

pub call-requires-clause-board : goal.call-requires-clause-board
call-requires-clause-board g c = on_board c.self.inside.hall.value.boards.items c.self.inside.passes.items c.args.self.now c.self.invariant c.self.view_is c.from-place.result c.args.shard c.from-place.ensures c.requires.within c.index_mut-pass.result.now c.index_mut-pass.ensures.value c.index-board.result.now (rw c.deref-hall.ensures at c.index-board.ensures)

pub call-requires-clause-opened : goal.call-requires-clause-opened
call-requires-clause-opened g c = began c.self.inside.hall.value.boards.items c.self.inside.passes.items c.args.self.now c.self.invariant c.self.view_is c.from-place.result c.args.shard c.from-place.ensures c.requires.within c.index_mut-pass.result.now c.index_mut-pass.ensures.value

pub invariant_of-self : goal.invariant_of-self
invariant_of-self g c = seated c.self.inside.hall.value.boards.items c.self.inside.passes.items c.args.self.now c.self.invariant c.self.view_is c.from-place.result c.args.shard c.from-place.ensures c.requires.within c.index_mut-pass.result.now c.index_mut-pass.ensures.value c.call.new.pass c.call.ensures.same.0 c.call.ensures.kept

pub call-requires-clause-allowed : goal.call-requires-clause-allowed
call-requires-clause-allowed g c = allowed c.self.inside.hall.value.boards.items c.self.inside.passes.items c.args.self.now c.self.invariant c.self.view_is c.from-place.result c.args.shard c.from-place.ensures c.requires.within c.index_mut-pass.result.now c.index_mut-pass.ensures.value c.args.asked c.requires.allowed

pub returns-clause-made : goal.returns-clause-made
returns-clause-made g c = IfOk-weaker c.call.result _ _ (λ r d. (called c.self.inside.hall.value.boards.items c.self.inside.passes.items c.args.self.now c.self.invariant c.self.view_is c.from-place.result c.args.shard c.from-place.ensures c.requires.within c.index_mut-pass.result.now c.index_mut-pass.ensures.value c.call.new.pass c.call.ensures.same.0 c.call.ensures.kept c.args.asked r c.steps_reply_in_kind.ensures d).calls) c.call.ensures.ok

pub returns-clause-last : goal.returns-clause-last
returns-clause-last g c = IfOk-weaker c.call.result _ _ (λ r d. (called c.self.inside.hall.value.boards.items c.self.inside.passes.items c.args.self.now c.self.invariant c.self.view_is c.from-place.result c.args.shard c.from-place.ensures c.requires.within c.index_mut-pass.result.now c.index_mut-pass.ensures.value c.call.new.pass c.call.ensures.same.0 c.call.ensures.kept c.args.asked r c.steps_reply_in_kind.ensures d).last) c.call.ensures.ok

pub returns-clause-fits : goal.returns-clause-fits
returns-clause-fits g c = IfOk-weaker c.call.result _ _ (λ r d. (called c.self.inside.hall.value.boards.items c.self.inside.passes.items c.args.self.now c.self.invariant c.self.view_is c.from-place.result c.args.shard c.from-place.ensures c.requires.within c.index_mut-pass.result.now c.index_mut-pass.ensures.value c.call.new.pass c.call.ensures.same.0 c.call.ensures.kept c.args.asked r c.steps_reply_in_kind.ensures d).fits) c.call.ensures.ok

pub returns-clause-err : goal.returns-clause-err
returns-clause-err g c = on_err_weaker c.call.result (λ d. refused c.self.inside.hall.value.boards.items c.self.inside.passes.items c.args.self.now c.self.invariant c.self.view_is c.from-place.result c.args.shard c.from-place.ensures c.requires.within c.index_mut-pass.result.now c.index_mut-pass.ensures.value c.call.new.pass c.call.ensures.same.0 c.call.ensures.kept d.1) c.call.ensures.err

pub returns-clause-memory : goal.returns-clause-memory
returns-clause-memory g c = on_err_weaker c.call.result (λ d. d.0) c.call.ensures.err

pub returns-clause-accounted : goal.returns-clause-accounted
returns-clause-accounted g c = IfOk-weaker c.call.result _ _ (λ r d. accounted c.self.inside.hall.value.boards.items c.self.inside.passes.items c.args.self.now c.self.invariant c.self.view_is c.from-place.result c.args.shard c.from-place.ensures c.requires.within c.index_mut-pass.result.now c.index_mut-pass.ensures.value c.call.new.pass c.call.ensures.same.0 c.call.ensures.kept c.legal_histories_are_accounted.ensures) c.call.ensures.ok

pub returns-clause-cared : goal.returns-clause-cared
returns-clause-cared g c = cared c.self.inside.hall.value.boards.items c.self.inside.passes.items c.args.self.now c.self.invariant c.self.view_is c.from-place.result c.args.shard c.from-place.ensures c.requires.within c.index_mut-pass.result.now c.index_mut-pass.ensures.value c.call.new.pass c.call.ensures.same.0 c.call.ensures.kept c.reached_worlds_go_on.ensures.onward c.reached_worlds_go_on.ensures.cared

pub returns-clause-mail : goal.returns-clause-mail
returns-clause-mail g c = unmailed c.self.inside.hall.value.boards.items c.self.inside.passes.items c.args.self.now c.self.invariant c.self.view_is c.from-place.result c.args.shard c.from-place.ensures c.requires.within c.index_mut-pass.result.now c.index_mut-pass.ensures.value c.call.new.pass c.call.ensures.same.0 c.call.ensures.kept c.call.ensures.same.1
