use Rattle.push_model.proofs.Owned.{places, not_refused, goes_on, unused, begun}
use Rattle.push_model.proofs.ToldAgain.{again_replied, again_stays}
use Rattle.push_model.proofs.laws.due_steps_go_on.Goals as goal

pub returns-clause-answered : goal.returns-clause-answered
returns-clause-answered c = λ w o f x r. not_refused w o f x (places w r)

pub returns-clause-onward : goal.returns-clause-onward
returns-clause-onward c = λ w o f x s r. goes_on w o f x s (places w r)

pub returns-clause-unused : goal.returns-clause-unused
returns-clause-unused c = unused

pub returns-clause-begun : goal.returns-clause-begun
returns-clause-begun c = λ w o t a r. begun w o t a (places w r)

pub returns-clause-again : goal.returns-clause-again
returns-clause-again c = λ w o f x r h t. (again_replied w o f x (places w r) h t, again_stays w o f x h t)
