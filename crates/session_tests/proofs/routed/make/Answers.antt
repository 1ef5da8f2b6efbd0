use Rattle.session_tests.proofs.ReadyLemmas.{ready_made, ready_still}
use Rattle.session_tests.proofs.routed.make.Goals as goal

pub returns-in_err-call : goal.returns-in_err-call
returns-in_err-call g c =
    ready_still (g.D.Desks.view c.args.desks.now) (g.D.Desks.view c.call.new.self) c.requires.ready c.in_err-call.ensures.err c.call.ensures.mail

pub returns : goal.returns
returns g c =
    ready_made (g.D.Desks.view c.args.desks.now) (g.D.Desks.view c.call.new.self) c.args.asked c.in_ok-call.field-0 c.requires.ready c.requires.other
    c.in_ok-call.ensures.made c.call.ensures.mail
