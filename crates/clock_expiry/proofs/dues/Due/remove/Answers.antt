use Rattle.std.proofs.Common.{◌≡◌, ◌∙◌, sym, arith}
use Rattle.push_model.specs.Keyed.{without_first}
use Rattle.clock_expiry.specs.Dues.{is_due}
use Rattle.clock_expiry.proofs.DueLemmas.{ascending-without_first}
use Rattle.clock_expiry.proofs.dues.Due.remove.Goals as goal

taken_out : (c : goal.After-remove) → c.remove.new.self.items ≡ without_first (is_due c.args.expires c.args.id) c.self.inside.entries.items
taken_out c =
    let at = rw c.deref.ensures.value at c.in-Some.ensures in
    c.remove.ensures.items ∙ sym at.removed

pub invariant_of-self : goal.invariant_of-self
invariant_of-self c =
    (omega (arith, c.remove.ensures.len, c.remove.ensures.capacity, c.self.invariant.0), rw (taken_out c) (ascending-without_first (is_due c.args.expires c.args.id) c.self.inside.entries.items c.self.invariant.1))
