use Rattle.push_laws.proofs.Headlines.{headline}
use Rattle.push_laws.proofs.laws.histories_keep_the_headline.Goals as goal

pub returns : goal.returns
returns c = headline
