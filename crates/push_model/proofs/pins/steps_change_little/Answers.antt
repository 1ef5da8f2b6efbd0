use Rattle.std.proofs.Common.{true, refl, Some}
use Rattle.push_model.proofs.PinsPools.{changes, takes, unsubscribed_message, spared_message, no_subscription, dropped_message, kept_message}
use Rattle.push_model.proofs.pins.steps_change_little.Goals as goal

pub returns-clause-taken : goal.returns-clause-taken
returns-clause-taken c = takes

pub returns-clause-kept : goal.returns-clause-kept
returns-clause-kept c = λ n p t e. changes n (λ t. record t { kept = true }) p t (record { message = λ t. refl; kept = λ t k. refl }) e

pub returns-clause-shown : goal.returns-clause-shown
returns-clause-shown c = λ m p t e. changes m.id.number (λ t. record t { shown = true }) p t (record { message = λ t. refl; kept = λ t k. k }) e

pub returns-clause-acked : goal.returns-clause-acked
returns-clause-acked c = λ n p t e. changes n (λ t. record t { acked = true }) p t (record { message = λ t. refl; kept = λ t k. k }) e

pub returns-clause-answered : goal.returns-clause-answered
returns-clause-answered c = λ n code p t e. changes n (λ t. record t { answer = Some code }) p t (record { message = λ t. refl; kept = λ t k. k }) e

pub returns-clause-struck : goal.returns-clause-struck
returns-clause-struck c = λ n p t e. changes n (λ t. record t { struck = true }) p t (record { message = λ t. refl; kept = λ t k. k }) e

pub returns-clause-left : goal.returns-clause-left
returns-clause-left c = λ n r p t e. changes n (λ t. record t { left = Some r }) p t (record { message = λ t. refl; kept = λ t k. k }) e

pub returns-clause-unsubscribed : goal.returns-clause-unsubscribed
returns-clause-unsubscribed c = unsubscribed_message

pub returns-clause-unsubscribed_no_other : goal.returns-clause-unsubscribed_no_other
returns-clause-unsubscribed_no_other c = spared_message

pub returns-clause-subscribed_no_more : goal.returns-clause-subscribed_no_more
returns-clause-subscribed_no_more c = no_subscription

pub returns-clause-dropped : goal.returns-clause-dropped
returns-clause-dropped c = dropped_message

pub returns-clause-dropped_no_other : goal.returns-clause-dropped_no_other
returns-clause-dropped_no_other c = kept_message
