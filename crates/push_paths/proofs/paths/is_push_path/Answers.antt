use Rattle.std.proofs.Common.{sym, arith}
use Rattle.std.specs.Prelude.{codes}
use Rattle.push_paths.specs.Paths.{push_route, is_push_path}
use Rattle.push_paths.proofs.PathLaws.{seek_route, is_true, is_false, prefix_bytes}
use Rattle.push_paths.proofs.paths.is_push_path.Goals as goal

pub returns-in-Ok : goal.returns-in-Ok
returns-in-Ok c =
    let path = c.args.path.now in
    let law = seek_route (codes "/wpush/v1/") path push_route prefix_bytes (λ i. omega (arith, c.type_inv.path i)) in
    let found = rw c.requires at c.in-Ok.ensures.found in
    sym (is_true (is_push_path path) _ _ _ law found)

pub returns-in-Err : goal.returns-in-Err
returns-in-Err c =
    let path = c.args.path.now in
    let law = seek_route (codes "/wpush/v1/") path push_route prefix_bytes (λ i. omega (arith, c.type_inv.path i)) in
    let found = rw c.requires at c.in-Err.ensures.missing in
    sym (is_false (is_push_path path) _ _ law found)
