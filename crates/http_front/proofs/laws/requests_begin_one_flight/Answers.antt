use Rattle.http_front.proofs.BelowLemmas.{begins_once}
use Rattle.http_front.proofs.laws.requests_begin_one_flight.Goals as goal

pub returns : goal.returns
returns c = λ v moment count n x h. begins_once v moment n x.request x.outcome x.entries h.comes
