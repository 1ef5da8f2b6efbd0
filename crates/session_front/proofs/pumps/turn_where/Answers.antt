use Rattle.std.proofs.Common.{◌≡◌, true, rules}
use Rattle.session_front.proofs.PumpLemmas.{turned_where}
use Rattle.session_front.proofs.pumps.turn_where.Goals as goal

pub returns-else-not-time : goal.returns-else-not-time
returns-else-not-time g c =
    let on : c.args.time ≡ true = search rules in
    turned_where c.args.s c.in-Some.s c.args.time _ _ _ c.in-Some.is on c.turn_of.ensures
