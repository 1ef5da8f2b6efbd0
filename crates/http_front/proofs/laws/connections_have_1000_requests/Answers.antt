use Rattle.http_front.proofs.ServeLemmas.{at_most_1000}
use Rattle.http_front.proofs.laws.connections_have_1000_requests.Goals as goal

pub returns : goal.returns
returns c = at_most_1000
