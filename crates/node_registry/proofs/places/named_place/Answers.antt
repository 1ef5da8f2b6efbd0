use Rattle.push_model.specs.Sessions.{is_session}
use Rattle.push_model.proofs.KeyedLemmas.{place_found}
use Rattle.node_registry.proofs.places.named_place.Goals as goal

pub returns : goal.returns
returns c = place_found (is_session c.args.s) c.args.sessions.now _ c.first_named.ensures
