use Rattle.http_front.proofs.BelowLemmas.{above_others, above_rises}
use Rattle.http_front.proofs.laws.numbers_stay_new.Goals as goal

pub returns-clause-above : goal.returns-clause-above
returns-clause-above c = above_rises

pub returns-clause-others : goal.returns-clause-others
returns-clause-others c = above_others
