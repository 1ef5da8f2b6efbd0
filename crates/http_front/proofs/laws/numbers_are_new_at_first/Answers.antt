use Rattle.http_front.proofs.BelowLemmas.{above_first, above_start}
use Rattle.http_front.proofs.laws.numbers_are_new_at_first.Goals as goal

pub returns-clause-first : goal.returns-clause-first
returns-clause-first c = above_first

pub returns-clause-start : goal.returns-clause-start
returns-clause-start c = above_start
