use Rattle.push_model.specs.Cells.{is_claim}
use Rattle.push_model.proofs.KeyedLemmas.{place_found}
use Rattle.user_cell.proofs.session_steps.claim_place.Goals as goal

pub returns : goal.returns
returns c = place_found (is_claim c.args.s) c.args.claims.now _ c.first_claim.ensures
