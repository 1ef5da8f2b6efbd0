use Rattle.push_model.specs.Pools.{CanKeep, taken_at}
use Rattle.push_model.proofs.PinsPools.{at_some, subscribed_there}
use Rattle.push_model.proofs.pins.guards_refuse.Goals as goal

pub returns-clause-keep_unsubscribed : goal.returns-clause-keep_unsubscribed
returns-clause-keep_unsubscribed c = λ n p t e no g. no (subscribed_there t.message.uaid t.message.chid p (at_some (taken_at n p) t (λ x. CanKeep x p) e g).subscribed)

pub returns-clause-take_unsubscribed : goal.returns-clause-take_unsubscribed
returns-clause-take_unsubscribed c = λ m p no g. no (subscribed_there m.uaid m.chid p g.subscribed)
