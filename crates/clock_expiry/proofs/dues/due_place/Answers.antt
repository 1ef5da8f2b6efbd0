use Rattle.push_model.proofs.KeyedLemmas.{place_found}
use Rattle.clock_expiry.specs.Dues.{is_due}
use Rattle.clock_expiry.proofs.dues.due_place.Goals as goal

pub returns : goal.returns
returns c = place_found (is_due c.args.expires c.args.id) c.args.entries.now _ c.first_due.ensures
