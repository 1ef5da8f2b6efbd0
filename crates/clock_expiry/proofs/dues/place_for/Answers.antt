use Rattle.clock_expiry.proofs.DueLemmas.{no_position}
use Rattle.clock_expiry.proofs.dues.place_for.Goals as goal

pub returns-in-None : goal.returns-in-None
returns-in-None c = no_position _ c.args.entries.now c.in-None.ensures
