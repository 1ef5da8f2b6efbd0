use Rattle.push_model.specs.Cells.{is_saver}
use Rattle.push_model.proofs.KeyedLemmas.{place_found}
use Rattle.shutdown_save.proofs.rows.saver_place.Goals as goal

pub returns : goal.returns
returns c = place_found (is_saver c.args.s) c.args.savers.now _ c.first_saver.ensures
