use Rattle.push_model.specs.Rows.{shares_topic}
use Rattle.push_model.proofs.KeyedLemmas.{place_found}
use Rattle.message_rows.proofs.places.topic_place.Goals as goal

pub returns : goal.returns
returns c = place_found (shares_topic c.args.message.now) c.args.rows.now _ c.first_of_topic.ensures
