use Rattle.endpoint_router.proofs.RouteCauses.{created_test, full_test, gone_test, route_says, spent_test}
use Rattle.endpoint_router.proofs.laws.routes_answer_by_their_entries.Goals as goal

pub returns-clause-few : goal.returns-clause-few
returns-clause-few c = λ k o now t ask answer ms h. (route_says k o now t ask answer ms h).few

pub returns-clause-created : goal.returns-clause-created
returns-clause-created c = λ k o now t ask answer ms h.
    let w = route_says k o now t ask answer ms h in
    created_test answer ask.terms.ttl _ w.taken (λ i ttl e. (w.id i ttl e).1)

pub returns-clause-id : goal.returns-clause-id
returns-clause-id c = λ k o now t ask answer ms h. (route_says k o now t ask answer ms h).id

pub returns-clause-gone : goal.returns-clause-gone
returns-clause-gone c = λ k o now t ask answer ms h. gone_test answer _ (route_says k o now t ask answer ms h).gone

pub returns-clause-full : goal.returns-clause-full
returns-clause-full c = λ k o now t ask answer ms h. full_test answer _ (route_says k o now t ask answer ms h).full

pub returns-clause-spent : goal.returns-clause-spent
returns-clause-spent c = λ k o now t ask answer ms h. spent_test answer _ (route_says k o now t ask answer ms h).spent

pub returns-clause-wanted : goal.returns-clause-wanted
returns-clause-wanted c = λ k o now t ask answer ms h. (route_says k o now t ask answer ms h).wanted
