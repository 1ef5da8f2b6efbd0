use Rattle.std.proofs.Common.{◌≡◌, ℕ, suc, refl, subst, arith}
use Rattle.push_outside.specs.Counts.{next_count}
use Rattle.node_loops.specs.Together.{raised}
use Rattle.push_exchange.specs.Boards.{passes_view}
use Rattle.serve_run.specs.Crews.{EachBeside}
use Rattle.serve_run.proofs.CrewLemmas.{alike_itself, alike_through, beside_along, beside_front, beside_last, joined_alike, then}
use Rattle.serve_run.proofs.crew.join_all.Goals as goal

pub loop-one-init : goal.loop-one-init
unfolding raised
loop-one-init g c = (0, omega arith, refl, refl, refl, alike_itself (passes_view c.args.passes.now), c.requires.beside)

pub join-requires : goal.join-requires
join-requires g c = λ k.
    let v = passes_view c.loop-one.passes in
    let each = subst (EachBeside g.S.Spawner.runs v) c.in-Some.ensures.items c.loop-one.invariant.6 in
    then (c.join-back.ensures.out.beside k) (beside_last g.S.Spawner.runs v c.pop.new.self.items c.in-Some.one each k)

pub loop-one-preserved : goal.loop-one-preserved
unfolding raised
loop-one-preserved g c =
    let v = passes_view c.loop-one.passes in
    let w = passes_view c.join.new.self in
    let i = c.loop-one.invariant in
    let each = subst (EachBeside g.S.Spawner.runs v) c.in-Some.ensures.items i.6 in
    let n = i.1 in let m = c.in-Some.ensures.len in (
      suc i.0,
      omega arith,
      subst (λ (j : ℕ). g.S.Spawner.joined c.join-back.new.self ≡ next_count j) i.2 c.join-back.ensures.joined,
      then c.join-back.ensures.started i.3,
      then c.join-back.ensures.faults i.4,
      alike_through (passes_view c.args.passes.now) v w i.5 (joined_alike v (passes_view c.join-back.result) w c.join.ensures.joined),
      beside_along g.S.Spawner.runs v w c.pop.new.self.items c.join.ensures.joined.board (beside_front g.S.Spawner.runs v c.pop.new.self.items c.in-Some.one each),
    )
