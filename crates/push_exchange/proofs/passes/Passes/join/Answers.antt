use Rattle.std.proofs.Common.{◌∙◌, List, ap, sym}
use Rattle.push_exchange.specs.PassViews.{PassView}
use Rattle.push_exchange.specs.Boards.{pass_at}
use Rattle.push_exchange.proofs.DeskParts.{honest_view, joined_view, seated_beside}
use Rattle.push_exchange.proofs.passes.Passes.join.Goals as goal

pub join_all-requires-clause-this : goal.join_all-requires-clause-this
join_all-requires-clause-this g c = rw (c.as_slice-boards.ensures.value, c.deref-hall.ensures) c.self.invariant

pub join_all-requires-clause-that : goal.join_all-requires-clause-that
join_all-requires-clause-that g c = rw (c.as_slice-boards.ensures.value, c.deref-hall.ensures)
    (seated_beside c.self.inside.hall.value.boards.items c.other.inside.hall.value.boards.items c.other.inside.passes.items c.other.invariant c.self.invariant.boards
    (λ k. ap (λ (l : List PassView). (pass_at l k).board) c.other.view_is ∙ (c.requires k ∙ (ap (λ (l : List PassView). (pass_at l k).board) (sym c.self.view_is) ∙ c.self.invariant.over k))))

pub invariant_of-self : goal.invariant_of-self
invariant_of-self g c = rw (c.as_slice-boards.ensures.value, c.deref-hall.ensures) at c.join_all.ensures.seated

pub returns-clause-joined : goal.returns-clause-joined
returns-clause-joined g c = joined_view c.self.inside.hall.value.boards.items c.args.self.now c.args.other c.self.inside.passes.items c.other.inside.passes.items c.join_all.new.passes.items c.self.view_is c.other.view_is c.self.invariant c.join_all.ensures.joined

pub returns-clause-honest : goal.returns-clause-honest
returns-clause-honest g c = honest_view c.as_slice-boards.result.now c.join_all.new.passes.items c.join_all.ensures.seated
