use Rattle.user_cell.proofs.cell.UserCell.routed_session.Goals as goal

pub returns : goal.returns
returns c =
    let named = rw (c.routed_place.ensures, ← c.self.view_is) at c.routed.ensures in
    rw (← c.self.view_is) named
