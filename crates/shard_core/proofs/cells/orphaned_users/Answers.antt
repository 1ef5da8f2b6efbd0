use Rattle.std.proofs.Common.{◌≡◌, ◌<◌, ◌≤◌, length, map, List, [], ◌∷◌, ◌++◌, ap, sym, subst, ◌∙◌, arith}
use Rattle.std.proofs.lemmas.List.{map-append}
use Rattle.push_model.specs.Cells.{Cell}
use Rattle.push_model.specs.ShardSteps.{is_orphaned, route_of}
use Rattle.shard_core.specs.Listing.{first_listed}
use Rattle.shard_core.proofs.Lists.{first_listed-more, first_listed-other, first_listed-full}
use Rattle.shard_core.proofs.cells.orphaned_users.Goals.{else-len-lt-LISTED-via-then-len-lt-LISTED+else-is_orphaned, else-len-lt-LISTED-via-else-len-lt-LISTED}
use Rattle.shard_core.proofs.cells.orphaned_users.Goals as goal

pub loop-cell-preserved-then-is_orphaned : goal.loop-cell-preserved-then-is_orphaned
loop-cell-preserved-then-is_orphaned c =
    let xs : List Cell = map (λ d. d.now) c.loop-cell.yielded in
    let x = c.in-Some.cell.now in
    let i : c.loop-cell.users ≡ first_listed is_orphaned xs = c.loop-cell.invariant in
    let few = subst (λ (us : List _). length us < 100) i (omega (arith, c.len.ensures, c.if-len-lt-LISTED.true)) in
    c.in_ok-list.ensures.ok ∙ ap (λ us. us ++ route_of x.uaid x.user) i ∙ sym (first_listed-more is_orphaned xs x few (sym c.is_orphaned.ensures ∙ c.if-is_orphaned.true)) ∙ ap (first_listed is_orphaned) (sym (map-append (λ d. d.now) c.loop-cell.yielded (c.in-Some.cell ∷ [])))

pub loop-cell-preserved : goal.loop-cell-preserved
loop-cell-preserved c =
    let xs : List Cell = map (λ d. d.now) c.loop-cell.yielded in
    let x = c.in-Some.cell.now in
    let i : c.loop-cell.users ≡ first_listed is_orphaned xs = c.loop-cell.invariant in
    let on = ap (first_listed is_orphaned) (sym (map-append (λ d. d.now) c.loop-cell.yielded (c.in-Some.cell ∷ []))) in
    elim c.else-len-lt-LISTED.branch [
      | else-len-lt-LISTED-via-then-len-lt-LISTED+else-is_orphaned w ↦ i ∙ sym (first_listed-other is_orphaned xs x (sym w.is_orphaned.ensures ∙ w.if-is_orphaned.false)) ∙ on
      | else-len-lt-LISTED-via-else-len-lt-LISTED w ↦ i ∙ sym (first_listed-full is_orphaned xs x (subst (λ us. 100 ≤ length us) i (omega (arith, c.len.ensures, w.if-len-lt-LISTED.false)))) ∙ on
    ]
