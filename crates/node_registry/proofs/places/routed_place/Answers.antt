use Rattle.node_registry.specs.Routed.{is_routed_by}
use Rattle.push_model.proofs.KeyedLemmas.{place_found}
use Rattle.node_registry.proofs.places.routed_place.Goals as goal

pub returns : goal.returns
returns c = place_found (is_routed_by c.args.place) c.args.sessions.now _ c.first_routed.ensures
