use Rattle.push_model.specs.Sessions.{is_attached_at}
use Rattle.push_model.proofs.KeyedLemmas.{place_found}
use Rattle.node_registry.proofs.places.place_at.Goals as goal

pub returns : goal.returns
returns c = place_found (is_attached_at c.args.node) c.args.sessions.now _ c.first_at.ensures
