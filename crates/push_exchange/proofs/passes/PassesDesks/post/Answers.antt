use Rattle.std.proofs.Common.{◌≡◌, ℕ, ◌-◌, ◌<◌, ◌≤◌, length, ap, arith}
use Rattle.push_model.specs.declared.mail.MailChange.TheVariants.{Post}
use Rattle.push_model.specs.MailWords.{bit_of}
use Rattle.push_exchange.proofs.DeskCalls.{began, few_of, mailed, on_board, refused, seated}
use Rattle.push_exchange.proofs.passes.PassesDesks.post.Goals as goal

pub index-board-requires : goal.index-board-requires
index-board-requires g c =
    let low : c.from-place.result < 16 = few_of c.self.inside.hall.value.boards.items c.self.inside.passes.items c.args.self.now c.self.invariant c.self.view_is c.from-place.result c.args.shard c.from-place.ensures c.requires in
    let wide : length c.deref-hall.result.now.boards.items ≡ 16 = rw c.deref-hall.ensures c.self.invariant.boards in
    omega (arith, c.deref-hall.result.now.boards.ok.0)

pub index_mut-pass-requires : goal.index_mut-pass-requires
index_mut-pass-requires g c =
    let low : c.from-place.result < 16 = few_of c.self.inside.hall.value.boards.items c.self.inside.passes.items c.args.self.now c.self.invariant c.self.view_is c.from-place.result c.args.shard c.from-place.ensures c.requires in
    let wide = c.self.invariant.wide in
    omega (arith, c.self.inside.passes.ok.0)

pub post-requires-clause-board : goal.post-requires-clause-board
post-requires-clause-board g c = on_board c.self.inside.hall.value.boards.items c.self.inside.passes.items c.args.self.now c.self.invariant c.self.view_is c.from-place.result c.args.shard c.from-place.ensures c.requires c.index_mut-pass.result.now c.index_mut-pass.ensures.value c.index-board.result.now (rw c.deref-hall.ensures at c.index-board.ensures)

pub post-requires-clause-opened : goal.post-requires-clause-opened
post-requires-clause-opened g c = began c.self.inside.hall.value.boards.items c.self.inside.passes.items c.args.self.now c.self.invariant c.self.view_is c.from-place.result c.args.shard c.from-place.ensures c.requires c.index_mut-pass.result.now c.index_mut-pass.ensures.value

pub invariant_of-self : goal.invariant_of-self
invariant_of-self g c = seated c.self.inside.hall.value.boards.items c.self.inside.passes.items c.args.self.now c.self.invariant c.self.view_is c.from-place.result c.args.shard c.from-place.ensures c.requires c.index_mut-pass.result.now c.index_mut-pass.ensures.value c.post.new.pass c.post.ensures.same.0 c.post.ensures.kept

pub index-bell-requires : goal.index-bell-requires
index-bell-requires g c = let e = c.deref-hall.result.now.eight in let high = c.get-slot.ensures.high in let f = c.from.ensures in omega arith

pub returns-clause-calls : goal.returns-clause-calls
returns-clause-calls g c = refused c.self.inside.hall.value.boards.items c.self.inside.passes.items c.args.self.now c.self.invariant c.self.view_is c.from-place.result c.args.shard c.from-place.ensures c.requires c.index_mut-pass.result.now c.index_mut-pass.ensures.value c.post.new.pass c.post.ensures.same.0 c.post.ensures.kept c.post.ensures.same.1

pub returns-clause-mail : goal.returns-clause-mail
returns-clause-mail g c =
    let some : 1 ≤ c.args.node = rw c.get-slot.ensures.value at c.get-slot.ensures.low in
    (mailed c.self.inside.hall.value.boards.items c.self.inside.passes.items c.args.self.now c.self.invariant c.self.view_is c.from-place.result c.args.shard c.from-place.ensures c.requires c.index_mut-pass.result.now c.index_mut-pass.ensures.value c.post.new.pass c.post.ensures.same.0 c.post.ensures.kept c.args.node (c.get-slot.result - 1) (Post (bit_of c.args.uaid)) some (ap (λ (z : ℕ). z - 1) c.get-slot.ensures.value) (rw c.mail_bit.ensures at c.post.ensures.mail)).mails

pub returns-clause-last : goal.returns-clause-last
returns-clause-last g c =
    let some : 1 ≤ c.args.node = rw c.get-slot.ensures.value at c.get-slot.ensures.low in
    (mailed c.self.inside.hall.value.boards.items c.self.inside.passes.items c.args.self.now c.self.invariant c.self.view_is c.from-place.result c.args.shard c.from-place.ensures c.requires c.index_mut-pass.result.now c.index_mut-pass.ensures.value c.post.new.pass c.post.ensures.same.0 c.post.ensures.kept c.args.node (c.get-slot.result - 1) (Post (bit_of c.args.uaid)) some (ap (λ (z : ℕ). z - 1) c.get-slot.ensures.value) (rw c.mail_bit.ensures at c.post.ensures.mail)).last
