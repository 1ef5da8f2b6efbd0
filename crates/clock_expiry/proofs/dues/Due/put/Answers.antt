use Rattle.std.proofs.Common.{◌≡◌, ℕ, ◌∙◌, ap, sym, arith}
use Rattle.std.specs.Prelude.{insert}
use Rattle.push_model.specs.declared.ids.MsgId.{MsgId}
use Rattle.clock_expiry.specs.Dues.{with_due}
use Rattle.clock_expiry.proofs.DueLemmas.{place_within, with_due-insert, ascending-with_due}
use Rattle.clock_expiry.proofs.dues.Due.put.Goals as goal

pub insert-requires : goal.insert-requires
insert-requires c = omega (arith, c.place_for-place.ensures, c.deref.ensures.len, place_within (c.args.expires, c.args.id) c.deref.result.now)

put_in : (c : goal.After-self-1) → c.insert.new.self.items ≡ with_due (c.args.expires, c.args.id) c.self.inside.entries.items
put_in c =
    let e : ℕ × MsgId = (c.args.expires, c.args.id) in
    let xs = c.self.inside.entries.items in
    c.in-Ok.ensures.items ∙ ap (λ n. insert xs n e) (rw c.deref.ensures.value at c.place_for-place.ensures) ∙ sym (with_due-insert e xs)

pub invariant_of-self : goal.invariant_of-self
invariant_of-self c = (
  omega (arith, c.in-Ok.ensures.len, c.in-Ok.ensures.capacity, c.self.invariant.0, rw (← c.self.view_is) at c.requires),
  rw (put_in c) (ascending-with_due (c.args.expires, c.args.id) c.self.inside.entries.items c.self.invariant.1),
)

pub returns-clause-entries : goal.returns-clause-entries
returns-clause-entries c = rw (← c.self.view_is) (put_in c)
