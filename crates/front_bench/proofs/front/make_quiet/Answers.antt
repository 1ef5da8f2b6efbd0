use Rattle.std.proofs.Common.{[]}
use Rattle.lone_desk.specs.LoneViews.{lone_view}
use Rattle.front_bench.proofs.DeskLemmas.{tried}
use Rattle.front_bench.proofs.front.make_quiet.Goals as goal

pub returns-clause-honest : goal.returns-clause-honest
returns-clause-honest c =
    let t = tried (lone_view c.args.desk.now) (lone_view c.call.new.self) c.args.asked c.call.result c.requires.quiet c.call.ensures.made c.call.ensures.err in
    c.calls_add_up.ensures.honest (lone_view c.args.desk.now) (lone_view c.call.new.self) t.entries [] t.calls c.call.ensures.mail c.requires.honest

pub returns-clause-above : goal.returns-clause-above
returns-clause-above c = λ n h.
    let t = tried (lone_view c.args.desk.now) (lone_view c.call.new.self) c.args.asked c.call.result c.requires.quiet c.call.ensures.made c.call.ensures.err in
    c.numbers_stay_new.ensures.others (lone_view c.args.desk.now) (lone_view c.call.new.self) t.entries n t.below t.calls h
