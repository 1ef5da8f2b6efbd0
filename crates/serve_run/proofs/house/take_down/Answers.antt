use Rattle.push_exchange.specs.Boards.{passes_view}
use Rattle.serve_run.proofs.HouseLemmas.{closed_is_sound, empty_along, over_along}
use Rattle.serve_run.proofs.house.take_down.Goals as goal

pub close-requires : goal.close-requires
close-requires g c = over_along c.args.house.exchange (passes_view c.args.house.passes) (passes_view c.join_all.new.passes) c.join_all.ensures.opening c.requires.over

pub returns-in-Ok-clause-sound : goal.returns-in-Ok-clause-sound
returns-in-Ok-clause-sound g c =
    let v = passes_view c.args.house.passes in
    let w = passes_view c.join_all.new.passes in
    closed_is_sound w c.in-Ok.shards (empty_along v w c.join_all.ensures.opening c.requires.empty) c.in-Ok.ensures.ok
