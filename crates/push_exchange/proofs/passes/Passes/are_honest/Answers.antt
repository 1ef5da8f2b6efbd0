use Rattle.std.proofs.Common.{List, subst}
use Rattle.push_model.specs.DeskViews.{IsHonest}
use Rattle.push_exchange.specs.PassViews.{PassView}
use Rattle.push_exchange.specs.Boards.{passes_view}
use Rattle.push_exchange.proofs.DeskParts.{honest_view}
use Rattle.push_exchange.proofs.passes.Passes.are_honest.Goals as goal

pub returns : goal.returns
returns g c = subst (λ (l : List PassView). IsHonest (passes_view l)) c.self.view_is (honest_view c.self.inside.hall.value.boards.items c.self.inside.passes.items c.self.invariant)
