use Rattle.push_model.specs.Sessions.{is_attached}
use Rattle.push_model.proofs.KeyedLemmas.{place_found}
use Rattle.node_registry.proofs.places.attached_place.Goals as goal

pub returns : goal.returns
returns c = place_found (is_attached c.args.s) c.args.sessions.now _ c.first_attached.ensures
