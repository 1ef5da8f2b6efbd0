use Rattle.std.proofs.Common.{arith}
use Rattle.serve_words.proofs.PlanLemmas.{spelled_once}
use Rattle.serve_words.proofs.reads.plan_of.Goals as goal

pub returns-clause-none : goal.returns-clause-none
returns-clause-none c = λ o p h s.
    c.new.ensures.none o
    (spelled_once p c.in_ok-connections.connections c.in_ok-endpoints.endpoints c.in_ok-connection_port.connection_port c.in_ok-endpoint_port.endpoint_port
    c.args.connections.now c.args.endpoints.now c.args.connection_port.now c.args.endpoint_port.now (omega arith) (omega arith) (omega arith) (omega arith)
    c.in_ok-connections.ensures.some c.in_ok-endpoints.ensures.some c.in_ok-connection_port.ensures.some c.in_ok-endpoint_port.ensures.some s h)
