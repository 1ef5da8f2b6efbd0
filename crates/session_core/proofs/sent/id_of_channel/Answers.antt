use Rattle.session_core.proofs.SentLemmas.{found_pair, passed_more}
use Rattle.session_core.proofs.sent.id_of_channel.Goals as goal

pub returns-then-chid-c-clause-found : goal.returns-then-chid-c-clause-found
returns-then-chid-c-clause-found c = found_pair c.args.c c.args.ids.now c.loop-place.place c.at.result c.at.ensures c.if-chid-c.true

pub loop-place-preserved : goal.loop-place-preserved
loop-place-preserved c = passed_more c.args.c c.args.ids.now c.loop-place.place c.at.result c.at.ensures c.if-chid-c.false c.loop-place.invariant
