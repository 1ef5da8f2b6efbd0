use Rattle.std.proofs.Common.{◌≡◌, List, [], ◌∷◌, ◌++◌, map, min, sym, subst, rules}
use Rattle.std.specs.Map.{values_of}
use Rattle.std.specs.Map.Iter.{deref}
use Rattle.std.proofs.lemmas.List.{map-append}
use Rattle.std.proofs.lemmas.Map.Iter.{iter_end}
use Rattle.push_model.specs.Cells.{Cell}
use Rattle.shard_core.proofs.DueCells.{NoneDueOf, due_more, due_values}
use Rattle.shard_core.proofs.dues.soonest_of.Goals as goal

pub loop-cell-preserved : goal.loop-cell-preserved
loop-cell-preserved c =
    let xs : List Cell = map (λ d. d.now) c.loop-cell.yielded in
    let x : Cell = c.in-Some.cell.now in
    let more : NoneDueOf (min c.loop-cell.next c.soonest.result) (xs ++ x ∷ []) = due_more c.loop-cell.next c.soonest.result xs x c.loop-cell.invariant c.soonest.ensures in
    subst (λ t. NoneDueOf t (map (λ d. d.now) (c.loop-cell.yielded ++ c.in-Some.cell ∷ []))) (sym c.earlier-next.ensures)
    (subst (NoneDueOf (min c.loop-cell.next c.soonest.result)) (sym (map-append (λ d. d.now) c.loop-cell.yielded (c.in-Some.cell ∷ []))) more)

pub returns : goal.returns
returns c =
    let all : map deref c.loop-cell.yielded ≡ values_of c.args.cells.now.entries = search (rules, iter_end) in
    due_values c.loop-cell.next c.args.cells.now.entries (subst (NoneDueOf c.loop-cell.next) all c.loop-cell.invariant)
